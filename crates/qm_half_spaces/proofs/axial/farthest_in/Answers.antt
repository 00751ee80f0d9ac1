use Rattle.std.proofs.Common.{refl, sym, subst}
use Rattle.qm_lists.proofs.Places.{Contains-read}
use Rattle.qm_space.specs.Plane.{Plane}
use Rattle.qm_half_spaces.specs.inner.AxialPlanes.{IsBoundAmong}
use Rattle.qm_half_spaces.proofs.AxialCells.{farther_bound}
use Rattle.qm_half_spaces.proofs.axial.farthest_in.Goals as goal
use Rattle.qm_half_spaces.proofs.axial.farthest_in.Goals.{then-is_farther_in, else-is_farther_in}

pub loop-plane-preserved : goal.loop-plane-preserved
loop-plane-preserved c =
    let planes = c.args.planes.now in
    let wall = c.args.wall.now in
    let has = Contains-read planes c.loop-plane.plane-index c.plane-item.result c.loop-plane-test.true c.plane-item.is planes refl in
    elim c.if-is_farther_in.branch [
      | then-is_farther_in w ↦
          subst (λ (h : Plane). IsBoundAmong planes h wall) (sym w.bound-is) (farther_bound planes c.plane-item.result c.loop-plane.bound wall has (c.is_farther_in.ensures w.if-is_farther_in.true) c.loop-plane.invariant)
      | else-is_farther_in w ↦ subst (λ (h : Plane). IsBoundAmong planes h wall) (sym w.bound-is) c.loop-plane.invariant
    ]
