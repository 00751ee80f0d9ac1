use Rattle.std.proofs.Common.{rules, ◌≡◌, ◌*◌, ℕ, max, FitsSigned, w64, ap, ap₂, ◌∙◌, unsigned_abs, subst}
use Rattle.std.specs.Prelude.{pos, ◌<ℤ◌}
use Rattle.std.proofs.lemmas.Int.{to_z-of_z}
use Rattle.qm_space.specs.Point.{Point}
use Rattle.qm_spans.proofs.TracedValues.{inside_test}
use Rattle.qm_trace.proofs.cube.is_inside_bound.Goals as goal

pub returns : goal.returns
returns c =
    let p = c.args.at.now in
    let fx : FitsSigned w64 c.at.inside.x = search rules in
    let fy : FitsSigned w64 c.at.inside.y = search rules in
    let fz : FitsSigned w64 c.at.inside.z = search rules in
    let fw : FitsSigned w64 c.at.inside.w = search rules in
    let x : c.unsigned_abs.result ≡ unsigned_abs p.x = c.unsigned_abs.ensures.value ∙ ap unsigned_abs (to_z-of_z w64 c.at.inside.x fx) ∙ ap (λ (q : Point). unsigned_abs q.x) c.at.view_is in
    let y : c.unsigned_abs-2.result ≡ unsigned_abs p.y = c.unsigned_abs-2.ensures.value ∙ ap unsigned_abs (to_z-of_z w64 c.at.inside.y fy) ∙ ap (λ (q : Point). unsigned_abs q.y) c.at.view_is in
    let z : c.unsigned_abs-3.result ≡ unsigned_abs p.z = c.unsigned_abs-3.ensures.value ∙ ap unsigned_abs (to_z-of_z w64 c.at.inside.z fz) ∙ ap (λ (q : Point). unsigned_abs q.z) c.at.view_is in
    let w : c.unsigned_abs-4.result ≡ unsigned_abs p.w = c.unsigned_abs-4.ensures.value ∙ ap unsigned_abs (to_z-of_z w64 c.at.inside.w fw) ∙ ap (λ (q : Point). unsigned_abs q.w) c.at.view_is in
    let positive = subst (λ (q : Point). pos 0 <ℤ q.w) c.at.view_is c.at.invariant in
    let farthest = c.max-farthest.ensures ∙ ap₂ (λ (a : ℕ) (b : ℕ). max a b) (c.max.ensures ∙ ap₂ (λ (a : ℕ) (b : ℕ). max a b) x y) z in
    inside_test c.args.bound c.max-farthest.result (c.from.result * c.unsigned_abs-4.result) p positive farthest (ap₂ (λ (a : ℕ) (b : ℕ). a * b) c.from.ensures w)
