-- The bytes of a tree file have no fault; what is left of one that is cut is too short, or too long as it is.
use Rattle.std.proofs.Common.{◌≡◌, ◌<◌, ◌⊎◌, ℕ, Bool, cond, List, ◌++◌, length, sym, ap, ◌∙◌, inl, inr}
use Rattle.std.proofs.lemmas.Bool.{cases_lt, le-ltb}
use Rattle.qm_formats.specs.Layout.{bad}
use Rattle.qm_formats.specs.FileParts.{FileFaultKind, short, too_long}
use Rattle.qm_formats.specs.TreeFile.{TreeFile, IsValidFile}
use Rattle.qm_formats.specs.FileLayout.{file_bytes, file_limit, IsFileOf}
use Rattle.qm_formats.specs.TreeFaults.{IsFaultOfFileBytes, too_many_bytes}
use Rattle.qm_formats.proofs.WholeFile.{read_file_again}
use Rattle.qm_formats.proofs.CutFiles.{prefix_cut_off}
use Rattle.qm_formats.proofs.FileBytes.{bytes_of_file, first_bytes_of_file}
use Rattle.qm_formats.proofs.TreeFaults.{tree_fault_in_words, tree_fault_again}

pub no_fault_of_file : (bytes : List ℕ) (file : TreeFile) (kind : FileFaultKind) (place : ℕ) → IsFileOf bytes file → IsFaultOfFileBytes bytes kind place → ⊥
no_fault_of_file bytes file kind place is fault =
    let e = sym (read_file_again bytes file is) ∙ tree_fault_again bytes (bytes_of_file bytes file is) kind place fault in
    cc

pub cut_file_fault : (file : TreeFile) (front behind : List ℕ) → IsValidFile file → file_bytes file ≡ front ++ behind → 0 < length behind → IsFaultOfFileBytes front short (length front) ⊎ IsFaultOfFileBytes front too_long file_limit
cut_file_fault file front behind valid is some =
    elim (cases_lt file_limit (length front)) [
      | inl more ↦ inr (too_many_bytes more)
      | inr fits ↦
          inl (tree_fault_in_words front (first_bytes_of_file file front behind valid is) short (length front)
          (prefix_cut_off file front behind valid is some ∙ ap (λ (b : Bool). cond b (bad too_long file_limit) (bad short (length front))) (le-ltb file_limit (length front) fits)))
    ]
