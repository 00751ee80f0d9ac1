-- What is written of a tree file that was read comes of upgrading it.
use Rattle.std.proofs.Common.{◌≡◌, ℕ, List, Result, Ok, Err}
use Rattle.std.specs.Prelude.{IsTrue, OnOk, OnErr, IfErr}
use Rattle.qm_surroundings.specs.ShelfState.{ShelfState}
use Rattle.qm_surroundings.specs.ShelfChanges.{IsKeptElsewhere, MetNoFault}
use Rattle.qm_surroundings.specs.WholeFiles.{HoldsExactly, HoldsUnfinished}
use Rattle.qm_shelf.specs.FaultMeans.{WriteFaultMeans}
use Rattle.qm_shelf.specs.declared.shelf.ShelfFault.{ShelfFault}
use Rattle.qm_shelf.specs.declared.shelf.ShelfFault.TheVariants.{Failed, Memory}
use Rattle.qm_shelf.proofs.Counted.{no_fault_twice, write_fault_twice}
use Rattle.qm_formats.specs.TreeFile.{TreeFile}
use Rattle.qm_commands.specs.Order.{of_upgrade}
use Rattle.qm_statement.specs.declared.status.Status.TheVariants.{Done}
use Rattle.qm_statement.specs.HoldsTree.{HoldsTreeFile}
use Rattle.qm_statement.specs.Texts.{upgrade_text}
use Rattle.qm_statement.specs.Unfinished.{IsUnfinished}
use Rattle.qm_statement.specs.Untouched.{IsUntouched}
use Rattle.qm_statement.specs.UpgradeComesOf.{IsUpgradeOf, IsUpgradeDue, IsUpgradeCutShort, UpgradeComesOf, tree_fault, unwritten, upgrade_written, tree_unread}
use Rattle.qm_statement.proofs.Unfinished.{kept_unfinished, written_since, unfinished_since}
use Rattle.qm_make.specs.declared.outcome.Outcome.TheVariants as outcomes
use Rattle.qm_compile.specs.declared.report.Report.{Report}
use Rattle.qm_compile.specs.declared.report.Report.TheVariants.{OfFiles}
use Rattle.qm_compile.specs.declared.tree_reading.NoTree.{NoTree}
use Rattle.qm_compile.specs.inner.CarriedOut.{IsCarriedOut}
use Rattle.qm_compile.specs.inner.Reported.{reported_status, reported_text}
use Rattle.qm_compile.specs.inner.UpgradeEnds.{IsEnd}
use Rattle.qm_compile.specs.inner.TreeRead.{IsReportOf, IsTreeRead}
use Rattle.qm_compile.proofs.CarriedOut.{carried_out, stopped, carried_out_without_tree}

-- a file was read, these bytes were made of it, and writing them ended in one of the ways in which it can
module _ (before between after : ShelfState) (tree_name out_name bytes : List ℕ) (file : TreeFile) (read : HoldsTreeFile before tree_name file) (made : IsUpgradeOf file bytes) (tells_are : between.tells ≡ before.tells) (untouched : IsUntouched before between) (kept_then : IsKeptElsewhere between after out_name) where
  abbrev due : IsUpgradeDue before tree_name bytes
  due = record { file = file; is_held = read; is_made = made }

  whole : (IsTrue between.tells → HoldsExactly after out_name bytes) → MetNoFault between after → UpgradeComesOf before after tree_name out_name Done (upgrade_text file.version)
  whole holds none = upgrade_written due
      (written_since before between after out_name bytes tells_are untouched.kept kept_then holds)
      (no_fault_twice before between after untouched.no_fault none)

  in_part : (IsTrue between.tells → HoldsUnfinished between after out_name bytes) → IsUnfinished before after out_name (IsUpgradeDue before tree_name)
  in_part part = unfinished_since before between after out_name bytes tells_are untouched.kept kept_then (IsUpgradeDue before tree_name) due part

  module _ {T E : Type 0} where
    pub written_ends : (written : Result T ShelfFault) → OnOk written (IsTrue between.tells → HoldsExactly after out_name bytes) → OnErr written (IsTrue between.tells → HoldsUnfinished between after out_name bytes) → OnOk written (MetNoFault between after) → IfErr written (WriteFaultMeans between after out_name) → (report : Report) → reported_status report ≡ Done → reported_text report ≡ upgrade_text file.version → (answer : Result Report E) → IsEnd written report answer → IsCarriedOut before after (of_upgrade tree_name out_name) answer
    written_ends (Ok _) holds part none means report status text answer is =
        carried_out before after (of_upgrade tree_name out_name) report (rw (status, text) (whole holds none)) answer is
    written_ends (Err Failed) holds part none means report status text answer is =
        carried_out before after (of_upgrade tree_name out_name) (OfFiles outcomes.WriteFault)
        (unwritten read (write_fault_twice before between after Failed out_name untouched.no_fault means) (in_part part))
        answer is
    written_ends (Err Memory) holds part none means report status text answer is =
        stopped before after (of_upgrade tree_name out_name)
        (record { no_fault = no_fault_twice before between after untouched.no_fault means; unfinished = in_part part })
        answer is

-- no tree file was read, and nothing was written
module _ (before after : ShelfState) (tree_name out_name : List ℕ) where
  not_begun : IsUntouched before after → IsUpgradeCutShort before after tree_name out_name
  not_begun untouched = record {
    no_fault = untouched.no_fault;
    unfinished = kept_unfinished before after out_name (IsUpgradeDue before tree_name) untouched.kept;
  }

  module _ {E : Type 0} where
    pub unwritten_without_tree : (found : NoTree) → IsTreeRead before after tree_name (Err found) → (answer : Result Report E) → IsReportOf found answer → IsCarriedOut before after (of_upgrade tree_name out_name) answer
    unwritten_without_tree =
        carried_out_without_tree before after (of_upgrade tree_name out_name) tree_name
        (λ kind place means untouched. tree_fault means untouched) (λ failed kept. tree_unread failed kept) not_begun
