use Rattle.std.specs.Prelude.{◌≡◌, ℕ, List, Result, Ok, Err, OnOk, string_bytes}
use Rattle.qm_surroundings.specs.ShelfState.{ShelfState}
use Rattle.qm_surroundings.specs.ShelfChanges.{IsKept, FailedToRead}
use Rattle.qm_formats.specs.Fields.{AreBytes}
use Rattle.qm_formats.specs.FileLayout.{IsFileOf}
use Rattle.qm_formats.specs.FileParts.{FileFaultKind}
use Rattle.qm_formats.specs.TreeFaults.{IsFaultOfFileBytes}
use Rattle.qm_formats.specs.TreeFile.{TreeFile}
use Rattle.qm_file.specs.declared.file_fault.FileFault.{FileFault}
use Rattle.qm_statement.specs.HoldsTree.{HoldsTreeFile, HoldsTreeFault}
use Rattle.qm_statement.specs.TreeFaultText.{tree_fault_text}
use Rattle.qm_statement.specs.Untouched.{IsUntouched}
use Rattle.qm_compile.specs.declared.report.Report.{Report}
use Rattle.qm_compile.specs.declared.report.Report.TheVariants as report
use Rattle.qm_compile.specs.declared.tree_reading.NoTree.{NoTree}
use Rattle.qm_compile.specs.declared.tree_reading.NoTree.TheVariants.{Fault, Unread, Memory}
use Rattle.qm_compile.specs.inner.FaultLine.{IsTreeFaultLine}

-- What is read under TREE.

-- there is a fault, of which this is the line
pub record IsLineOfFault (HasFault : FileFaultKind → ℕ → Type 0) (line : List ℕ) : Type 0 where
  pub kind : FileFaultKind
  pub place : ℕ
  pub has_fault : HasFault kind place
  pub is_line : line ≡ tree_fault_text kind place

-- a fault of decoding is told by its line, unless memory ran out
abbrev pub IsNoTreeOf : FileFault → NoTree → Type 0
IsNoTreeOf fault (Fault line) = IsTreeFaultLine fault (string_bytes line)
IsNoTreeOf fault Unread = ⊥
IsNoTreeOf fault Memory = Unit {0}

-- what is read in bytes
abbrev pub IsReadOfBytes : List ℕ → Result TreeFile NoTree → Type 0
IsReadOfBytes bytes (Ok file) = IsFileOf bytes file
IsReadOfBytes bytes (Err (Fault line)) = AreBytes bytes × IsLineOfFault (IsFaultOfFileBytes bytes) (string_bytes line)
IsReadOfBytes bytes (Err Unread) = ⊥
IsReadOfBytes bytes (Err Memory) = Unit {0}

-- what is read under a name, and that the shelf holds what it held
abbrev pub IsTreeRead : ShelfState → ShelfState → List ℕ → Result TreeFile NoTree → Type 0
IsTreeRead before after tree_name (Ok file) = HoldsTreeFile before tree_name file × IsUntouched before after
IsTreeRead before after tree_name (Err (Fault line)) = IsLineOfFault (HoldsTreeFault before tree_name) (string_bytes line) × IsUntouched before after
IsTreeRead before after tree_name (Err Unread) = FailedToRead before after tree_name × IsKept before after
IsTreeRead before after tree_name (Err Memory) = IsUntouched before after

-- why no tree file was read is reported, unless memory ran out
abbrev pub IsReportOf : {E : Type 0} → NoTree → Result Report E → Type 0
IsReportOf (Fault line) answer = answer ≡ Ok (report.TreeFault line)
IsReportOf Unread answer = answer ≡ Ok report.ReadFault
IsReportOf Memory answer = OnOk answer ⊥
