use Rattle.std.proofs.Common.{subst}
use Rattle.qm_convex.specs.Cut.{IsPartInFront}
use Rattle.qm_convex.proofs.Squares.{part_in_world}
use Rattle.qm_wind.proofs.winding.Winding.cut_down.Goals as goal

pub invariant_of-self-2 : goal.invariant_of-self-2
invariant_of-self-2 c =
    let w = c.cut_down.new.self in
    let is = c.in_ok-cut_down.ensures.ok in
    record {
      in_world = part_in_world w c.self.inside.polygon c.args.plane.now c.self.invariant.in_world is;
      within = c.part_cuboid-cuboid.ensures w (subst (λ v. IsPartInFront w v c.args.plane.now) c.self.view_is is);
    }
