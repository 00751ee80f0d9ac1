use Rattle.qm_model_layout.proofs.WholeSections.{own_bytes}
use Rattle.qm_model_file.proofs.laws.own_models_bytes.Goals as goal

pub returns : goal.returns
returns c = own_bytes
