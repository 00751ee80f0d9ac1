-- What is reported of an order is due with it, or memory ran out on its way.
use Rattle.std.proofs.Common.{◌≡◌, ℕ, List, Result, Ok, Err}
use Rattle.std.specs.Prelude.{OnOk}
use Rattle.qm_surroundings.specs.ShelfState.{ShelfState}
use Rattle.qm_surroundings.specs.ShelfChanges.{IsKept, FailedToRead}
use Rattle.qm_commands.specs.Order.{Order}
use Rattle.qm_formats.specs.FileParts.{FileFaultKind}
use Rattle.qm_statement.specs.declared.status.Status.TheVariants as status
use Rattle.qm_statement.specs.HoldsTree.{HoldsTreeFault}
use Rattle.qm_statement.specs.Run.{OrderComesOf, IsStopped}
use Rattle.qm_statement.specs.Texts.{read_fault_text}
use Rattle.qm_statement.specs.TreeFaultText.{tree_fault_text}
use Rattle.qm_statement.specs.Untouched.{IsUntouched}
use Rattle.qm_compile.specs.declared.report.Report.{Report}
use Rattle.qm_compile.specs.declared.report.Report.TheVariants.{TreeFault, ReadFault}
use Rattle.qm_compile.specs.declared.tree_reading.NoTree.{NoTree}
use Rattle.qm_compile.specs.declared.tree_reading.NoTree.TheVariants.{Fault, Unread, Memory}
use Rattle.qm_compile.specs.inner.CarriedOut.{IsCarriedOut}
use Rattle.qm_compile.specs.inner.Reported.{reported_status, reported_text}
use Rattle.qm_compile.specs.inner.TreeRead.{IsReportOf, IsTreeRead}

module _ {E : Type 0} (before after : ShelfState) (order : Order) where
  -- this report is due
  pub carried_out : (report : Report) → OrderComesOf before after order (reported_status report) (reported_text report) → (answer : Result Report E) → answer ≡ Ok report → IsCarriedOut before after order answer
  carried_out report due answer is = rw is (record { due = due; memory = tt })

  -- memory ran out
  pub stopped : IsStopped order before after → (answer : Result Report E) → OnOk answer ⊥ → IsCarriedOut before after order answer
  stopped short (Ok report) never = absurd never
  stopped short (Err fault) said = record { due = tt; memory = short }

  -- no tree file was read: its fault is due, or that it could not be read; or memory ran out
  pub carried_out_without_tree : (tree_name : List ℕ) → ((kind : FileFaultKind) (place : ℕ) → HoldsTreeFault before tree_name kind place → IsUntouched before after → OrderComesOf before after order status.TreeFault (tree_fault_text kind place)) → (FailedToRead before after tree_name → IsKept before after → OrderComesOf before after order status.ReadFault read_fault_text) → (IsUntouched before after → IsStopped order before after) → (found : NoTree) → IsTreeRead before after tree_name (Err found) → (answer : Result Report E) → IsReportOf found answer → IsCarriedOut before after order answer
  carried_out_without_tree tree_name fault unread short (Fault line) is answer said =
      carried_out (TreeFault line) (rw is.0.is_line (fault is.0.kind is.0.place is.0.has_fault is.1)) answer said
  carried_out_without_tree tree_name fault unread short Unread is answer said = carried_out ReadFault (unread is.0 is.1) answer said
  carried_out_without_tree tree_name fault unread short Memory is answer said = stopped (short is) answer said
