use Rattle.qm_formats.proofs.TreeFaults.{tree_fault_in_words, tree_fault_again}
use Rattle.qm_file.proofs.laws.first_tree_fault.Goals as goal

pub returns : goal.returns
returns c = λ bytes fault place are. (λ read. tree_fault_in_words bytes are fault place read, λ words. tree_fault_again bytes are fault place words)
