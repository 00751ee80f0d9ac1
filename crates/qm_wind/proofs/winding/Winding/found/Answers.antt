use Rattle.std.proofs.Common.{ℤ, pos, ◌<ℤ◌, ◌≤ℤ◌, subst, sym, ◌∙◌, true≢false, arith}
use Rattle.std.proofs.lemmas.Int.{ints}
use Rattle.qm_convex.specs.Winding.{IsConvex}
use Rattle.qm_convex.specs.World.{LiesWithin}
use Rattle.qm_convex.proofs.Within.{front_by_least, back_by_greatest, none_behind_by_least, none_in_front_by_greatest}
use Rattle.qm_convex.proofs.OwnPlane.{beside, beside_back}
use Rattle.qm_wind.proofs.winding.Winding.found.Goals as goal

pub returns-then-least-gt0 : goal.returns-then-least-gt0
returns-then-least-gt0 c =
    let h = c.if-least-gt0.true in
    let t = c.least_value-least.type_inv in
    let p : pos 0 <ℤ c.least_value-least.result = omega (arith, ints) in
    front_by_least c.args.self.now c.self.inside.cuboid c.args.plane.now (subst (λ v. LiesWithin v c.self.inside.cuboid) c.self.view_is c.self.invariant.within) (subst (λ (z : ℤ). pos 0 <ℤ z) c.least_value-least.ensures.exact p)

pub returns-else-is_on : goal.returns-else-is_on
returns-else-is_on c =
    let h = c.if-least-ge0.true in
    let t = c.least_value-least.type_inv in
    let p : pos 0 ≤ℤ c.least_value-least.result = omega (arith, ints) in
    beside c.args.self.now c.args.plane.now (subst IsConvex c.self.view_is c.self.invariant.in_world.convex)
    (none_behind_by_least c.args.self.now c.self.inside.cuboid c.args.plane.now (subst (λ v. LiesWithin v c.self.inside.cuboid) c.self.view_is c.self.invariant.within) (subst (λ (z : ℤ). pos 0 ≤ℤ z) c.least_value-least.ensures.exact p))
    (λ l. true≢false (sym (c.is_on.ensures.1 l) ∙ c.if-is_on.false))

pub returns-then-greatest-lt0 : goal.returns-then-greatest-lt0
returns-then-greatest-lt0 c =
    let h = c.if-greatest-lt0.true in
    let t = c.greatest_value-greatest.type_inv in
    let p : c.greatest_value-greatest.result <ℤ pos 0 = omega (arith, ints) in
    back_by_greatest c.args.self.now c.self.inside.cuboid c.args.plane.now (subst (λ v. LiesWithin v c.self.inside.cuboid) c.self.view_is c.self.invariant.within) (subst (λ (z : ℤ). z <ℤ pos 0) c.greatest_value-greatest.ensures.exact p)

pub returns-else-is_on-2 : goal.returns-else-is_on-2
returns-else-is_on-2 c =
    let h = c.if-greatest-le0.true in
    let t = c.greatest_value-greatest.type_inv in
    let p : c.greatest_value-greatest.result ≤ℤ pos 0 = omega (arith, ints) in
    beside_back c.args.self.now c.args.plane.now (subst IsConvex c.self.view_is c.self.invariant.in_world.convex)
    (none_in_front_by_greatest c.args.self.now c.self.inside.cuboid c.args.plane.now (subst (λ v. LiesWithin v c.self.inside.cuboid) c.self.view_is c.self.invariant.within) (subst (λ (z : ℤ). z ≤ℤ pos 0) c.greatest_value-greatest.ensures.exact p))
    (λ l. true≢false (sym (c.is_on-then-greatest-le0.ensures.1 l) ∙ c.if-is_on-2.false))
