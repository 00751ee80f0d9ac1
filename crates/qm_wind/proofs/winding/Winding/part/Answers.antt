use Rattle.std.proofs.Common.{subst}
use Rattle.qm_convex.specs.Cut.{IsPartInFront}
use Rattle.qm_convex.proofs.Squares.{part_in_world}
use Rattle.qm_wind.proofs.winding.Winding.part.Goals as goal

pub invariant_of-result : goal.invariant_of-result
invariant_of-result c =
    let w = c.in_ok-part_in_front_of.field-0 in
    let is = c.in_ok-part_in_front_of.ensures.part in
    record {
      in_world = part_in_world w c.self.inside.polygon c.args.plane.now c.self.invariant.in_world is;
      within = c.part_cuboid.ensures w (subst (λ v. IsPartInFront w v c.args.plane.now) c.self.view_is is);
    }
