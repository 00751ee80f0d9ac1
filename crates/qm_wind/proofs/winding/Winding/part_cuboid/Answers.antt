use Rattle.std.proofs.Common.{◌∙◌, ap, sym, subst}
use Rattle.qm_convex.specs.World.{LiesWithin}
use Rattle.qm_convex.proofs.Within.{part_within, own_within}
use Rattle.qm_wind.proofs.winding.Winding.part_cuboid.Goals as goal

pub returns-then-is_across_an_axis : goal.returns-then-is_across_an_axis
returns-then-is_across_an_axis c w is =
    part_within w c.args.self.now c.args.plane.now c.self.inside.cuboid c.tightened-tightened.result
    (subst (λ v. LiesWithin v c.self.inside.cuboid) c.self.view_is c.self.invariant.within) is c.tightened-tightened.ensures

pub returns-else-is_across_an_axis : goal.returns-else-is_across_an_axis
returns-else-is_across_an_axis c w is =
    own_within w c.plane-own.result c.tightened-tightened.result c.tightened_on.result
    (part_within w c.args.self.now c.args.plane.now c.self.inside.cuboid c.tightened-tightened.result
    (subst (λ v. LiesWithin v c.self.inside.cuboid) c.self.view_is c.self.invariant.within) is c.tightened-tightened.ensures)
    (is.plane ∙ sym (c.plane-own.ensures ∙ ap (λ v. v.plane) c.self.view_is)) c.tightened_on.ensures
