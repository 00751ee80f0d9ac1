use Rattle.qm_separators.proofs.ChainLaws.{ahead_at_start}
use Rattle.qm_sight.proofs.laws.sight_is_ahead_at_start.Goals as goal

pub returns : goal.returns
returns c = λ tree touchings p k state have are listed begun sight. ahead_at_start tree have touchings are p k state listed begun sight
