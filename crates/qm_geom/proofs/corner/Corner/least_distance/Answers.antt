use Rattle.std.proofs.Common.{rules, ◌≡◌, ◌^◌, ◌<ℤ◌, ◌∙◌, pos, ap, arith, lit≤, sym, subst}
use Rattle.qm_geom.specs.Vectors.{HasSmallComponents, vector_of, step_to, dot}
use Rattle.qm_geom.specs.declared.vector.Vector.{Vector}
use Rattle.qm_numbers.specs.Rounding.{IsRoundedUp}
use Rattle.qm_geom.proofs.LeastDistances.{along_small, components_small, dot_up_is_least}
use Rattle.qm_numbers.proofs.Bits.{kept_128, kept_64}
use Rattle.qm_geom.proofs.corner.Corner.least_distance.Goals as goal

pub along-requires : goal.along-requires
along-requires c =
    subst (λ (v : Vector). HasSmallComponents v (2 ^ 26)) (sym c.of.ensures)
    (components_small c.args.normal (c.requires.normal_small 0 (pos 0) (search rules)) (c.requires.normal_small 1 (pos 0) (search rules)) (c.requires.normal_small 2 (pos 0) (search rules)))

pub rounded_up-requires : goal.rounded_up-requires
rounded_up-requires c =
    let weight : pos 0 <ℤ c.args.self.now.w = rw (← c.self.view_is) c.self.invariant.weight in
    let normal = subst (λ (v : Vector). HasSmallComponents v (2 ^ 26)) (sym c.of.ensures)
    (components_small c.args.normal (c.requires.normal_small 0 (pos 0) (search rules)) (c.requires.normal_small 1 (pos 0) (search rules)) (c.requires.normal_small 2 (pos 0) (search rules))) in
    let small = along_small c.of.result c.args.self.now normal c.requires.corner_small in
    let size = c.along.ensures.size in
    rw (kept_128 c.along.result _ c.along.ensures.size (lit≤ tt), kept_128 c.self.inside.w _ c.self.invariant.sizes.w_small (lit≤ tt), ap (λ p. p.w) c.self.view_is)
    (record { under_positive = weight; over_small = omega arith; fraction_small = rw c.along.ensures.exact small })

pub returns : goal.returns
returns c =
    let weight : pos 0 <ℤ c.args.self.now.w = rw (← c.self.view_is) c.self.invariant.weight in
    let along : c.along.result ≡ dot (vector_of c.args.normal) (step_to c.args.self.now) = c.along.ensures.exact ∙ ap (λ v. dot v (step_to c.args.self.now)) c.of.ensures in
    let up : IsRoundedUp (dot (vector_of c.args.normal) (step_to c.args.self.now)) c.args.self.now.w c.rounded_up.result =
    rw (kept_128 c.along.result _ c.along.ensures.size (lit≤ tt), kept_128 c.self.inside.w _ c.self.invariant.sizes.w_small (lit≤ tt), along, ap (λ p. p.w) c.self.view_is) at c.rounded_up.ensures.exact in
    rw (kept_64 c.rounded_up.result _ c.rounded_up.ensures.size (lit≤ tt)) (dot_up_is_least c.args.normal c.args.self.now c.rounded_up.result weight up)
