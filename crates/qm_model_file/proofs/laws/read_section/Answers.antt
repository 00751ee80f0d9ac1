use Rattle.std.proofs.Common.{length}
use Rattle.qm_model_layout.proofs.WholeSections.{read_models_found, read_models_again}
use Rattle.qm_model_file.proofs.laws.read_section.Goals as goal

pub returns : goal.returns
returns c = λ bound numbered bytes models are. (λ read. read_models_found bound numbered bytes models (length bytes) are read, λ written. read_models_again bound numbered bytes models are written)
