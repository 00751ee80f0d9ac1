-- What is reported of a tree file, or of bytes that are none, comes of asking it.
use Rattle.std.proofs.Common.{◌≡◌, ℕ, List, Result, Ok, Err}
use Rattle.std.specs.Prelude.{IfOk}
use Rattle.qm_surroundings.specs.ShelfState.{ShelfState}
use Rattle.qm_formats.specs.TreeFile.{TreeFile}
use Rattle.qm_commands.specs.declared.query.Query.{Query}
use Rattle.qm_commands.specs.Order.{of_tree}
use Rattle.qm_statement.specs.declared.status.Status.{Status}
use Rattle.qm_statement.specs.declared.status.Status.TheVariants.{QueryRefused}
use Rattle.qm_statement.specs.RefusalText.{refusal_text}
use Rattle.qm_answers.specs.declared.query_fault.QueryFault.{QueryFault}
use Rattle.qm_answers.specs.AllAnswers.{IsFirstRefused}
use Rattle.qm_statement.specs.HoldsTree.{HoldsTreeFile}
use Rattle.qm_statement.specs.InspectComesOf.{InspectComesOf, unread, no_tree_file, answered}
use Rattle.qm_statement.specs.InspectComesOf as comes
use Rattle.qm_statement.specs.Untouched.{IsUntouched}
use Rattle.qm_compile.specs.declared.report.Report.{Report}
use Rattle.qm_compile.specs.declared.tree_reading.NoTree.{NoTree}
use Rattle.qm_compile.specs.inner.CarriedOut.{IsCarriedOut}
use Rattle.qm_compile.specs.inner.FileReport.{IsFileReport, refusal, all_lines}
use Rattle.qm_compile.specs.inner.Reported.{reported_status, reported_text}
use Rattle.qm_compile.specs.inner.TreeRead.{IsReportOf, IsTreeRead}
use Rattle.qm_compile.proofs.CarriedOut.{carried_out_without_tree}

module _ (before after : ShelfState) (tree_name : List ℕ) (queries : List Query) where
  reported : IsUntouched before after → (file : TreeFile) → HoldsTreeFile before tree_name file → (status : Status) (text : List ℕ) → IsFileReport file queries status text → InspectComesOf before after tree_name queries status text
  reported untouched file is status text (refusal first) = comes.refused is first untouched
  reported untouched file is status text (all_lines are) = answered is are untouched

  module _ {E : Type 0} where
    -- a tree file was read, and asked
    pub asked : (file : TreeFile) → IsTreeRead before after tree_name (Ok file) → (answer : Result Report E) → IfOk answer (λ report. IsFileReport file queries (reported_status report) (reported_text report)) → IsCarriedOut before after (of_tree tree_name queries) answer
    asked file is (Ok report) told = record { due = reported is.1 file is.0 (reported_status report) (reported_text report) told; memory = tt }
    asked file is (Err fault) told = record { due = tt; memory = is.1 }

    -- none was read
    pub unasked : (none : NoTree) → IsTreeRead before after tree_name (Err none) → (answer : Result Report E) → IsReportOf none answer → IsCarriedOut before after (of_tree tree_name queries) answer
    unasked =
        carried_out_without_tree before after (of_tree tree_name queries) tree_name
        (λ kind place means untouched. no_tree_file means untouched) (λ failed kept. unread failed kept) (λ untouched. untouched)

-- a query was refused
pub refused : (file : TreeFile) (queries : List Query) (status : Status) (text : List ℕ) (number : ℕ) (fault : QueryFault) → IsFirstRefused file 1 queries number fault → status ≡ QueryRefused → text ≡ refusal_text number fault → IsFileReport file queries status text
refused file queries status text number fault first status_is text_is = rw (status_is, text_is) (refusal first)
