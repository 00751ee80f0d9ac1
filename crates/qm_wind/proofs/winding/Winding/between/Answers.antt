use Rattle.std.proofs.Common.{List, sym, subst}
use Rattle.std.specs.Result.{IfOk}
use Rattle.std.specs.Option.{MatchOption}
use Rattle.qm_space.specs.Plane.{Plane}
use Rattle.qm_convex.specs.Section.{IsSection, MissesCell, AreAxialBounds}
use Rattle.qm_wind.proofs.winding.Winding.between.Goals as goal

pub in_cell-requires : goal.in_cell-requires
in_cell-requires c = subst AreAxialBounds (sym c.of.ensures) c.requires

pub returns : goal.returns
returns c =
    subst (λ (bounds : List Plane). IfOk c.in_cell.result (λ part. MatchOption part (MissesCell bounds c.args.plane.now) (λ w. IsSection bounds c.args.plane.now w))) c.of.ensures c.in_cell.ensures
