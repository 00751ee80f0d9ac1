use Rattle.std.specs.Prelude.{ℕ, List}
use Rattle.qm_surroundings.specs.ShelfState.{ShelfState}
use Rattle.qm_surroundings.specs.ShelfChanges.{IsKept, FailedToRead}
use Rattle.qm_formats.specs.FileParts.{FileFaultKind}
use Rattle.qm_formats.specs.TreeFile.{TreeFile}
use Rattle.qm_commands.specs.declared.query.Query.{Query}
use Rattle.qm_answers.specs.declared.query_fault.QueryFault.{QueryFault}
use Rattle.qm_answers.specs.AllAnswers.{AreAnswered, IsFirstRefused}
use Rattle.qm_statement.specs.declared.status.Status.{Status}
use Rattle.qm_statement.specs.declared.status.Status.TheVariants.{Done, ReadFault, TreeFault, QueryRefused}
use Rattle.qm_statement.specs.HoldsTree.{HoldsTreeFile, HoldsTreeFault}
use Rattle.qm_statement.specs.RefusalText.{refusal_text}
use Rattle.qm_statement.specs.Texts.{read_fault_text}
use Rattle.qm_statement.specs.TreeFaultText.{tree_fault_text}
use Rattle.qm_statement.specs.Untouched.{IsUntouched}

-- what comes of a command that reads TREE and asks it queries, where memory does not run out: a status, and the text that
-- is due with it. The shelf always holds what it held.
pub data InspectComesOf (before after : ShelfState) (tree_name : List ℕ) (queries : List Query) : Status → List ℕ → Type 0 where
  -- TREE could not be read
  unread :
      FailedToRead before after tree_name → IsKept before after →
      InspectComesOf before after tree_name queries ReadFault read_fault_text
  -- the bytes are no tree file: their first fault
  no_tree_file :
      {kind : FileFaultKind} {place : ℕ} → HoldsTreeFault before tree_name kind place → IsUntouched before after →
      InspectComesOf before after tree_name queries TreeFault (tree_fault_text kind place)
  -- a query is refused: the first one that is, alone
  refused :
      {file : TreeFile} {number : ℕ} {fault : QueryFault} → HoldsTreeFile before tree_name file →
      IsFirstRefused file 1 queries number fault → IsUntouched before after →
      InspectComesOf before after tree_name queries QueryRefused (refusal_text number fault)
  -- every query is answered: all lines of the answers
  answered :
      {file : TreeFile} {lines : List ℕ} → HoldsTreeFile before tree_name file →
      AreAnswered file queries lines → IsUntouched before after →
      InspectComesOf before after tree_name queries Done lines
