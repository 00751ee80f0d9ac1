use Rattle.std.specs.Prelude.{ℕ, List}
use Rattle.qm_formats.specs.TreeFile.{TreeFile}
use Rattle.qm_commands.specs.declared.query.Query.{Query}
use Rattle.qm_answers.specs.declared.query_fault.QueryFault.{QueryFault}
use Rattle.qm_answers.specs.AllAnswers.{AreAnswered, IsFirstRefused}
use Rattle.qm_statement.specs.declared.status.Status.{Status}
use Rattle.qm_statement.specs.declared.status.Status.TheVariants.{Done, QueryRefused}
use Rattle.qm_statement.specs.RefusalText.{refusal_text}

-- what is reported of queries to a tree file: a status and a text
pub data IsFileReport (file : TreeFile) (queries : List Query) : Status → List ℕ → Type 0 where
  refusal :
      {number : ℕ} {fault : QueryFault} → IsFirstRefused file 1 queries number fault →
      IsFileReport file queries QueryRefused (refusal_text number fault)
  all_lines : {lines : List ℕ} → AreAnswered file queries lines → IsFileReport file queries Done lines
