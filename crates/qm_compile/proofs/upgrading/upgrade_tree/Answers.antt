use Rattle.std.proofs.Common.{refl}
use Rattle.qm_shelf.specs.SeenForms.{shelf_state}
use Rattle.qm_compile.proofs.Upgrades.{unwritten_without_tree}
use Rattle.qm_compile.proofs.upgrading.upgrade_tree.Goals as goal

pub write_upgrade-requires : goal.write_upgrade-requires
write_upgrade-requires g c = c.in-Ok.ensures.0.is_file.valid

pub returns-in-Ok : goal.returns-in-Ok
returns-in-Ok g c = c.write_upgrade.ensures (shelf_state g.H.Shelf c.args.shelf.now) c.args.tree_name.now refl c.in-Ok.ensures

pub returns-in-Err : goal.returns-in-Err
returns-in-Err g c = unwritten_without_tree _ _ _ _ c.in-Err.none c.in-Err.ensures c.report_of.result c.report_of.ensures
