use Rattle.std.proofs.Common.{ℤ, ◌<ℤ◌, ◌≤ℤ◌, ap, subst, arith, lit≤, ◌∙◌}
use Rattle.std.proofs.lemmas.Int.{ints}
use Rattle.qm_numbers.proofs.Bits.{kept_64}
use Rattle.qm_numbers.proofs.Kept.{small_kept}
use Rattle.qm_space.specs.Plane.{Plane}
use Rattle.qm_narrow.specs.inner.Look.{look_bound}
use Rattle.qm_narrow.proofs.KeptNormals.{own_small}
use Rattle.qm_narrow.proofs.Outlooks.{ahead_by, not_ahead_by}
use Rattle.qm_narrow.proofs.traced.is_ahead.Goals as goal

pub least-least-requires-clause-small : goal.least-least-requires-clause-small
least-least-requires-clause-small c = own_small c.normal-normal.result c.normal-normal.ensures.size

pub greatest_from-requires-clause-small : goal.greatest_from-requires-clause-small
greatest_from-requires-clause-small c = own_small c.normal-normal.result c.normal-normal.ensures.size

pub greatest_from-requires-clause-spot : goal.greatest_from-requires-clause-spot
greatest_from-requires-clause-spot c = (c.args.corner.now, c.requires.spot)

pub greatest_from-requires-clause-least : goal.greatest_from-requires-clause-least
greatest_from-requires-clause-least c = kept_64 c.least-least.result look_bound c.least-least.ensures.size (lit≤ tt) ∙ c.least-least.ensures.exact

pub greatest_from-requires-clause-least_small : goal.greatest_from-requires-clause-least_small
greatest_from-requires-clause-least_small c = small_kept c.least-least.result look_bound (lit≤ tt) c.least-least.ensures.size

pub returns-then-least-plane : goal.returns-then-least-plane
returns-then-least-plane c =
    let test = c.if-least-plane.true in let t = c.least-least.ensures.size in let d = c.plane.invariant.d_small in
    let is : c.plane.inside.d <ℤ c.least-least.result = omega (arith, ints) in
    ahead_by c.args.plane.now c.normal-normal.result c.normal-normal.ensures.exact c.args.corner.now c.requires.weight c.args.spot.now c.requires.spot
    (subst (λ (z : ℤ). c.args.plane.now.d <ℤ z) c.least-least.ensures.exact (subst (λ (z : ℤ). z <ℤ c.least-least.result) (ap (λ (h : Plane). h.d) c.plane.view_is) is))

pub returns-then-greatest_from-plane : goal.returns-then-greatest_from-plane
returns-then-greatest_from-plane c =
    let test = c.if-greatest_from-plane.true in let t = c.greatest_from.ensures.size in let d = c.plane.invariant.d_small in
    let is : c.greatest_from.result ≤ℤ c.plane.inside.d = omega (arith, ints) in
    not_ahead_by c.args.plane.now c.normal-normal.result c.normal-normal.ensures.exact c.args.corner.now c.requires.weight c.args.spot.now c.requires.spot
    (subst (λ (z : ℤ). z ≤ℤ c.args.plane.now.d) c.greatest_from.ensures.exact (subst (λ (z : ℤ). c.greatest_from.result ≤ℤ z) (ap (λ (h : Plane). h.d) c.plane.view_is) is))
