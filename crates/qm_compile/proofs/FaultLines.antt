-- The line of a fault of a tree file, put together of its number, its place and its words.
use Rattle.std.proofs.Common.{◌≡◌, ℕ, ◌++◌, Result, String}
use Rattle.std.proofs.lemmas.Result.{IfOk-weaker}
use Rattle.std.specs.Prelude.{IfOk, codes, string_bytes}
use Rattle.std.specs.Fmt.{decimal}
use Rattle.qm_formats.specs.FileParts.{FileFaultKind}
use Rattle.qm_file.specs.declared.file_fault.FileFault.{FileFault}
use Rattle.qm_statement.specs.Texts.{line}
use Rattle.qm_statement.specs.TreeFaultText.{number_of_tree_fault, words_of_tree_fault, tree_fault_text}
use Rattle.qm_compile.specs.inner.FaultLine.{fault_at, IsTreeFaultLine}

-- where one is made with the number and the words of this kind, it is the line of the fault of this kind
pub told : {Z E : Type 0} (kind : FileFaultKind) (place : ℕ) {fault : FileFault} → fault ≡ fault_at kind place → (answer : Result (String Z) E) → IfOk answer (λ text. string_bytes text ≡ line (codes "tree fault " ++ (decimal (number_of_tree_fault kind) ++ (codes " at byte " ++ (decimal place ++ (codes ": " ++ words_of_tree_fault kind)))))) → IfOk answer (λ text. IsTreeFaultLine fault (string_bytes text))
unfolding tree_fault_text
told kind place is answer printed =
    IfOk-weaker answer _ _ (λ text is_line. record { kind = kind; place = place; is_fault = is; is_line = is_line }) printed
