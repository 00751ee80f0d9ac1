use Rattle.qm_model_layout.proofs.ModelFaults.{fault_in_words, fault_again}
use Rattle.qm_model_file.proofs.laws.first_models_fault.Goals as goal

pub returns : goal.returns
returns c = λ bound numbered bytes fault place are. (λ read. fault_in_words bound numbered bytes are fault place read, λ words. fault_again bound numbered bytes are fault place words)
