use Rattle.std.proofs.Common.{ℕ, List, refl, sym, subst}
use Rattle.qm_shelf.specs.SeenForms.{shelf_state}
use Rattle.qm_statement.specs.UpgradeComesOf.{IsUpgradeOf}
use Rattle.qm_make.specs.declared.outcome.Outcome.TheVariants.{Done}
use Rattle.qm_compile.specs.declared.report.Report.TheVariants.{OfFiles}
use Rattle.qm_compile.proofs.Upgrades.{written_ends}
use Rattle.qm_compile.proofs.upgrading.write_upgrade.Goals as goal

pub returns : goal.returns
returns g c before tree_name tells_are found =
    let between = shelf_state g.H.Shelf c.args.shelf.now in
    let after = shelf_state g.H.Shelf c.write_whole-written.new.shelf in
    let upgrade = c.in_ok-upgrade.ensures in
    let made = subst (λ (bytes : List ℕ). IsUpgradeOf c.args.file bytes) (sym c.deref.ensures.value) upgrade.made in
    let wrote = c.write_whole-written.ensures in
    written_ends before between after tree_name c.args.out_name.now c.deref.result.now c.args.file found.0 made tells_are found.1 wrote.kept_elsewhere c.write_whole-written.result wrote.whole wrote.unfinished wrote.ok wrote.err (OfFiles (Done c.in_ok-upgrade.upgrade.line)) refl upgrade.said c.ended.result c.ended.ensures
