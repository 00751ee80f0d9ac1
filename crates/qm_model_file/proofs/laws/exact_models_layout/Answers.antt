use Rattle.qm_model_layout.proofs.ExactModels.{models_exact}
use Rattle.qm_model_file.proofs.laws.exact_models_layout.Goals as goal

pub returns : goal.returns
returns c = models_exact
