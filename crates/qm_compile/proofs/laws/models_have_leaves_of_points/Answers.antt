use Rattle.qm_model_files.proofs.ModelLaws.{leaves_of_compiled}
use Rattle.qm_compile.proofs.laws.models_have_leaves_of_points.Goals as goal

pub returns : goal.returns
returns c = λ map options file world summary is models read. leaves_of_compiled map options file world summary is models read
