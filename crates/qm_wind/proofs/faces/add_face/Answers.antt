use Rattle.std.proofs.Common.{sym, subst, ◌∙◌}
use Rattle.qm_convex.specs.World.{IsInWorld}
use Rattle.qm_convex.specs.inner.Parallelogram.{parallelogram}
use Rattle.qm_convex.proofs.Squares.{face_in_world}
use Rattle.qm_wind.proofs.faces.add_face.Goals as goal

pub in_world-requires : goal.in_world-requires
in_world-requires c =
    subst IsInWorld (sym (c.in_ok-polygon.ensures ∙ (λ i. parallelogram c.args.wall.now (c.of_wall.ensures i).near (c.of_wall-2.ensures i).near (c.of_wall.ensures i).far (c.of_wall-2.ensures i).far)))
    (face_in_world _ c.args.wall.now c.requires)
