use Rattle.std.proofs.Common.{sym, subst}
use Rattle.std.proofs.lemmas.Result.{IfOk-weaker}
use Rattle.qm_convex.specs.Section.{AreAxialBounds}
use Rattle.qm_convex.proofs.AxialBounds.{walls_are_axial}
use Rattle.qm_wind.proofs.Clips.{part_in_cube}
use Rattle.qm_wind.proofs.winding.Winding.on.Goals as goal

pub in_cell-requires : goal.in_cell-requires
in_cell-requires c = subst AreAxialBounds (sym c.whole.ensures) walls_are_axial

pub returns : goal.returns
returns c = IfOk-weaker c.in_cell.result _ _ (λ part is. part_in_cube _ c.args.plane.now part c.whole.ensures is) c.in_cell.ensures
