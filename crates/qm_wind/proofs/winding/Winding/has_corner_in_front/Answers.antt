use Rattle.std.proofs.Common.{ℤ, pos, ◌<ℤ◌, ◌≤ℤ◌, subst, arith}
use Rattle.std.proofs.lemmas.Int.{ints}
use Rattle.qm_convex.specs.Winding.{IsConvex}
use Rattle.qm_convex.specs.World.{LiesWithin}
use Rattle.qm_wind.proofs.SidesOfCorners.{not_by_greatest, so_by_least}
use Rattle.qm_wind.proofs.winding.Winding.has_corner_in_front.Goals as goal

pub returns-then-greatest_value-le0 : goal.returns-then-greatest_value-le0
returns-then-greatest_value-le0 c =
    let h = c.if-greatest_value-le0.true in
    let t = c.greatest_value.type_inv in
    let p : c.greatest_value.result ≤ℤ pos 0 = omega (arith, ints) in
    not_by_greatest c.args.self.now c.args.plane.now (subst IsConvex c.self.view_is c.self.invariant.in_world.convex) c.self.inside.cuboid (subst (λ v. LiesWithin v c.self.inside.cuboid) c.self.view_is c.self.invariant.within)
    (subst (λ (z : ℤ). z ≤ℤ pos 0) c.greatest_value.ensures.exact p)

pub returns-then-least_value-gt0 : goal.returns-then-least_value-gt0
returns-then-least_value-gt0 c =
    let h = c.if-least_value-gt0.true in
    let t = c.least_value.type_inv in
    let p : pos 0 <ℤ c.least_value.result = omega (arith, ints) in
    so_by_least c.args.self.now c.args.plane.now (subst IsConvex c.self.view_is c.self.invariant.in_world.convex) c.self.inside.cuboid (subst (λ v. LiesWithin v c.self.inside.cuboid) c.self.view_is c.self.invariant.within)
    (subst (λ (z : ℤ). pos 0 <ℤ z) c.least_value.ensures.exact p)
