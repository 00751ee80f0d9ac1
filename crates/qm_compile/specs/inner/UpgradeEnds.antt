use Rattle.std.specs.Prelude.{◌≡◌, ℕ, List, Result, Ok, Err, OnOk}
use Rattle.qm_surroundings.specs.ShelfState.{ShelfState}
use Rattle.qm_shelf.specs.declared.shelf.ShelfFault.{ShelfFault}
use Rattle.qm_shelf.specs.declared.shelf.ShelfFault.TheVariants.{Failed, Memory}
use Rattle.qm_commands.specs.Order.{of_upgrade}
use Rattle.qm_formats.specs.TreeFile.{TreeFile}
use Rattle.qm_make.specs.declared.outcome.Outcome.TheVariants as outcomes
use Rattle.qm_compile.specs.declared.report.Report.{Report}
use Rattle.qm_compile.specs.declared.report.Report.TheVariants.{OfFiles}
use Rattle.qm_compile.specs.inner.CarriedOut.{IsCarriedOut}
use Rattle.qm_compile.specs.inner.TreeRead.{IsTreeRead}

-- How upgrading a tree file ends.

-- what was due is reported where all was written; else the fault of writing
abbrev pub IsEnd : {T E : Type 0} → Result T ShelfFault → Report → Result Report E → Type 0
IsEnd (Ok _) due answer = answer ≡ Ok due
IsEnd (Err Failed) due answer = answer ≡ Ok (OfFiles outcomes.WriteFault)
IsEnd (Err Memory) due answer = OnOk answer ⊥

-- what comes of upgrading once this file was read, and nothing was changed yet
abbrev pub IsUpgradeWritten : {E : Type 0} → ShelfState → ShelfState → TreeFile → List ℕ → Result Report E → Type 0
IsUpgradeWritten between after file out_name answer =
    (before : ShelfState) (tree_name : List ℕ) → between.tells ≡ before.tells → IsTreeRead before between tree_name (Ok file) →
    IsCarriedOut before after (of_upgrade tree_name out_name) answer
