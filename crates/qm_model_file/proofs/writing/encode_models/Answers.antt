use Rattle.std.proofs.Common.{refl}
use Rattle.qm_model_layout.proofs.WrittenModels.{models_bytes-parts}
use Rattle.qm_model_file.proofs.writing.encode_models.Goals as goal

pub returns-clause-exact : goal.returns-clause-exact
returns-clause-exact c = rw (c.in_ok-put_models.ensures.exact, c.in_ok-put_small_count.ensures, c.new-bytes.ensures.items, models_bytes-parts c.args.models.now) refl
