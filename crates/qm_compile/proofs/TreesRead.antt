-- What is read of the bytes under a name is what the name held.
use Rattle.std.proofs.Common.{◌≡◌, ℕ, true, false, List, Result, Ok, Err, refl, sym, ◌∙◌, subst}
use Rattle.std.specs.Prelude.{string_bytes}
use Rattle.qm_lists.proofs.Cases.{by_cases}
use Rattle.qm_surroundings.specs.ShelfState.{ShelfState, text_under}
use Rattle.qm_surroundings.specs.WholeFiles.{IsReadFrom}
use Rattle.qm_formats.specs.Fields.{AreBytes}
use Rattle.qm_formats.specs.FileLayout.{file_limit, read_file, IsFileOf}
use Rattle.qm_formats.specs.FileParts.{FileFaultKind, short, magic, counts, plane_form, node_order, leaf_form, row_form, trailing, too_long, header_form, section_form}
use Rattle.qm_formats.specs.Layout.{Decoded, bad}
use Rattle.qm_formats.specs.TreeFaults.{IsFaultOfFileBytes}
use Rattle.qm_formats.specs.TreeFile.{TreeFile}
use Rattle.qm_formats.proofs.TreeFaults.{tree_fault_in_words}
use Rattle.qm_file.specs.Answers.{IsFaultOfFile}
use Rattle.qm_file.specs.declared.file_fault.FileFault.{FileFault}
use Rattle.qm_statement.specs.HoldsTree.{HoldsTreeFile, HoldsTreeFault}
use Rattle.qm_statement.specs.Untouched.{IsUntouched}
use Rattle.qm_compile.specs.declared.tree_reading.NoTree.{NoTree}
use Rattle.qm_compile.specs.declared.tree_reading.NoTree.TheVariants.{Fault, Unread, Memory}
use Rattle.qm_compile.specs.inner.FaultLine.{fault_at, IsTreeFaultLine}
use Rattle.qm_compile.specs.inner.TreeRead.{IsLineOfFault, IsNoTreeOf, IsReadOfBytes, IsTreeRead}
use Rattle.qm_compile.proofs.CutFiles.{all_are_read, file_of_cut, fault_of_cut}

module _ (before : ShelfState) (tree_name read : List ℕ) (is_read : IsReadFrom before tree_name file_limit read) where
  file_held : (file : TreeFile) → IsFileOf read file → HoldsTreeFile before tree_name file
  file_held file is =
      by_cases before.tells
      (λ tells. record {
        bytes = text_under before tree_name;
        is_held = λ _. refl;
        is_file = file_of_cut (text_under before tree_name) file (subst (λ (bytes : List ℕ). IsFileOf bytes file) (is_read tells) is);
      })
      (λ silent. record {
        bytes = read;
        is_held = λ tells. absurd (let e : true ≡ false = sym tells ∙ silent in cc);
        is_file = is;
      })

  fault_held : AreBytes read → (kind : FileFaultKind) (place : ℕ) → IsFaultOfFileBytes read kind place → HoldsTreeFault before tree_name kind place
  fault_held are kind place is =
      by_cases before.tells
      (λ tells. record {
        bytes = text_under before tree_name;
        is_held = λ _. refl;
        are_bytes = λ fits. subst AreBytes (is_read tells ∙ all_are_read (text_under before tree_name) fits) are;
        is_fault = fault_of_cut (text_under before tree_name) kind place (subst (λ (bytes : List ℕ). IsFaultOfFileBytes bytes kind place) (is_read tells) is);
      })
      (λ silent. record {
        bytes = read;
        is_held = λ tells. absurd (let e : true ≡ false = sym tells ∙ silent in cc);
        are_bytes = λ _. are;
        is_fault = is;
      })

  pub read_under : (after : ShelfState) → IsUntouched before after → (found : Result TreeFile NoTree) → IsReadOfBytes read found → IsTreeRead before after tree_name found
  read_under after untouched (Ok file) is = (file_held file is, untouched)
  read_under after untouched (Err (Fault line)) is =
      let found = is.1 in
      (record { kind = found.kind; place = found.place; has_fault = fault_held is.0 found.kind found.place found.has_fault; is_line = found.is_line }, untouched)
  read_under after untouched (Err Unread) is = absurd is
  read_under after untouched (Err Memory) is = untouched

-- a fault of decoding is the one that reading gives
fault_given : {X : Type 0} (kind : FileFaultKind) (place : ℕ) (answer : Decoded FileFaultKind X) → IsFaultOfFile (fault_at kind place) answer → answer ≡ bad kind place
fault_given short place answer is = is
fault_given magic place answer is = is
fault_given counts place answer is = is
fault_given plane_form place answer is = is
fault_given node_order place answer is = is
fault_given leaf_form place answer is = is
fault_given row_form place answer is = is
fault_given trailing place answer is = is
fault_given too_long place answer is = is
fault_given header_form place answer is = is
fault_given section_form place answer is = is

module _ (bytes : List ℕ) (are : AreBytes bytes) where
  -- the fault of decoding is that of the bytes
  fault_read : (line : List ℕ) (fault : FileFault) → IsFaultOfFile fault (read_file bytes) → IsTreeFaultLine fault line → IsLineOfFault (IsFaultOfFileBytes bytes) line
  fault_read line fault is told = record {
    kind = told.kind;
    place = told.place;
    has_fault = tree_fault_in_words bytes are told.kind told.place (fault_given told.kind told.place (read_file bytes) (subst (λ (f : FileFault). IsFaultOfFile f (read_file bytes)) told.is_fault is));
    is_line = told.is_line;
  }

  pub fault_told : (fault : FileFault) → IsFaultOfFile fault (read_file bytes) → (none : NoTree) → IsNoTreeOf fault none → IsReadOfBytes bytes (Err none)
  fault_told fault is (Fault line) told = (are, fault_read (string_bytes line) fault is told)
  fault_told fault is Unread never = absurd never
  fault_told fault is Memory told = tt
