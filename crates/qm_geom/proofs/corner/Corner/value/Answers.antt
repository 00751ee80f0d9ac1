use Rattle.std.proofs.Common.{◌*◌, ◌^◌, ◌∙◌, ap, lit≤, refl}
use Rattle.qm_geom.specs.Vectors.{step_to, dot}
use Rattle.qm_numbers.proofs.Kept.{factors_small, factors_answered, apart_fits, apart_is}
use Rattle.qm_geom.proofs.Vectors.{value_is}
use Rattle.qm_geom.proofs.corner.Corner.value.Goals as goal

pub along-requires : goal.along-requires
along-requires c = c.normal.ensures.size

pub times-requires : goal.times-requires
times-requires c =
    factors_small c.plane.inside.d c.self.inside.w (2 ^ 44) (3 * 2 ^ 79) (3 * 2 ^ 123) c.plane.invariant.d_small c.self.invariant.sizes.w_small (lit≤ tt) (lit≤ tt) (lit≤ tt)

pub overflow_sub-result : goal.overflow_sub-result
overflow_sub-result c =
    apart_fits c.along.result c.times.result (9 * 2 ^ 123) (3 * 2 ^ 123) c.along.ensures.size c.times.ensures.size (lit≤ tt)

pub returns : goal.returns
returns c =
    let times =
    factors_answered c.times.result c.plane.inside.d c.self.inside.w (2 ^ 44) (3 * 2 ^ 79) c.plane.invariant.d_small c.self.invariant.sizes.w_small (lit≤ tt) (lit≤ tt) c.times.ensures.exact in
    apart_is c.along.result c.times.result (9 * 2 ^ 123) (3 * 2 ^ 123) c.along.ensures.size c.times.ensures.size (lit≤ tt)
    ∙ value_is c.args.plane.now c.args.self.now c.along.result c.times.result
    (c.along.ensures.exact ∙ ap (λ n. dot n (step_to c.args.self.now)) c.normal.ensures.exact) (times ∙ rw (← c.plane.view_is, ← c.self.view_is) refl)
