use Rattle.std.specs.Prelude.{ℕ, List}
use Rattle.qm_surroundings.specs.ShelfState.{ShelfState}
use Rattle.qm_surroundings.specs.ShelfChanges.{IsKept, MetNoFault, FailedToRead, FailedToWrite}
use Rattle.qm_formats.specs.FileParts.{FileFaultKind}
use Rattle.qm_formats.specs.TreeFile.{TreeFile}
use Rattle.qm_formats.specs.Upgraded.{upgraded}
use Rattle.qm_answers.specs.SameAnswers.{HaveSameAnswers}
use Rattle.qm_statement.specs.declared.status.Status.{Status}
use Rattle.qm_statement.specs.declared.status.Status.TheVariants.{Done, ReadFault, WriteFault, TreeFault}
use Rattle.qm_statement.specs.HoldsTree.{HoldsTreeFile, HoldsTreeFault}
use Rattle.qm_statement.specs.Texts.{read_fault_text, write_fault_text, upgrade_text}
use Rattle.qm_statement.specs.TreeBytes.{AreBytesOf}
use Rattle.qm_statement.specs.TreeFaultText.{tree_fault_text}
use Rattle.qm_statement.specs.Unfinished.{IsUnfinished, IsWrittenAlone}
use Rattle.qm_statement.specs.Untouched.{IsUntouched}

-- What comes of a command that reads TREE, and writes the same tree file in version 2 under OUT.

-- what is made of a tree file: exactly the bytes of the same file in version 2, which is valid and has the same answers
pub record IsUpgradeOf (file : TreeFile) (bytes : List ℕ) : Type 0 where
  pub is_file : AreBytesOf (upgraded file) bytes
  pub same_answers : HaveSameAnswers file (upgraded file)

-- the bytes that are due in OUT: what is made of the tree file that the bytes under TREE are
pub record IsUpgradeDue (before : ShelfState) (tree_name bytes : List ℕ) : Type 0 where
  pub file : TreeFile
  pub is_held : HoldsTreeFile before tree_name file
  pub is_made : IsUpgradeOf file bytes

-- memory ran out on the way: no call of the shelf failed, and OUT may be unfinished
pub record IsUpgradeCutShort (before after : ShelfState) (tree_name out_name : List ℕ) : Type 0 where
  pub no_fault : MetNoFault before after
  pub unfinished : IsUnfinished before after out_name (IsUpgradeDue before tree_name)

-- what comes of it where memory does not run out: a status, and the text that is due with it. TREE, which has another name
-- than OUT, always has the bytes that it had.
pub data UpgradeComesOf (before after : ShelfState) (tree_name out_name : List ℕ) : Status → List ℕ → Type 0 where
  -- TREE could not be read, and nothing was changed
  tree_unread :
      FailedToRead before after tree_name → IsKept before after →
      UpgradeComesOf before after tree_name out_name ReadFault read_fault_text
  -- the bytes are no tree file: their first fault, and nothing was changed
  tree_fault :
      {kind : FileFaultKind} {place : ℕ} → HoldsTreeFault before tree_name kind place → IsUntouched before after →
      UpgradeComesOf before after tree_name out_name TreeFault (tree_fault_text kind place)
  -- OUT could not be written, or not to its end
  unwritten :
      {file : TreeFile} → HoldsTreeFile before tree_name file →
      FailedToWrite before after out_name → IsUnfinished before after out_name (IsUpgradeDue before tree_name) →
      UpgradeComesOf before after tree_name out_name WriteFault write_fault_text
  -- OUT is whole, and the version that TREE has is printed
  upgrade_written :
      {bytes : List ℕ} (due : IsUpgradeDue before tree_name bytes) →
      IsWrittenAlone before after out_name bytes → MetNoFault before after →
      UpgradeComesOf before after tree_name out_name Done (upgrade_text due.file.version)
