use Rattle.qm_answers.proofs.ModelsByEntity.{valid_ascend}
use Rattle.qm_inspect.proofs.parts.decoded_models.Goals as goal

pub returns-in-Ok-clause-ascend : goal.returns-in-Ok-clause-ascend
returns-in-Ok-clause-ascend c = valid_ascend _ _ 0 c.in-Ok.models c.in-Ok.ensures.found.are_valid.each
