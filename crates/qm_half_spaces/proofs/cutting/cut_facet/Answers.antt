use Rattle.std.proofs.Common.{◌≡◌, Some, [], ◌∷◌, ◌++◌, refl, ap, ◌∙◌, subst}
use Rattle.std.proofs.lemmas.Bool.{MatchBool-at_true, MatchBool-at_false}
use Rattle.qm_space.specs.Plane.{Plane}
use Rattle.qm_convex.specs.Winding.{Winding}
use Rattle.qm_convex.specs.Sides.{HasNoneInFront}
use Rattle.qm_convex.specs.Cut.{IsPartInFront}
use Rattle.qm_convex.specs.inner.Facets.{Facet}
use Rattle.qm_wind.specs.Clipped.{IsCutDown}
use Rattle.qm_body.proofs.CutFacets.{none_added, half_added}
use Rattle.qm_half_spaces.proofs.cutting.cut_facet.Goals as goal
use Rattle.qm_half_spaces.proofs.cutting.cut_facet.Goals.{In_ok-cut}

is_cut : (c : In_ok-cut) → IsCutDown c.in_ok-cut.field-0 c.cut.new.self c.args.facet.winding c.args.plane.now
is_cut c = subst (λ (v : Winding). IsCutDown c.in_ok-cut.field-0 c.cut.new.self v c.args.plane.now) (c.deref_mut.ensures.value ∙ ap (λ (f : Facet). f.winding) c.facet.view_is) c.in_ok-cut.ensures.ok

pub returns-in_ok-push : goal.returns-in_ok-push
returns-in_ok-push c =
    let old = c.args.facet.winding in
    let new = c.cut.new.self in
    half_added c.args.plane.now c.args.facet c.args.left.now.items c.push.new.self.items (Some new)
    (MatchBool-at_true (IsPartInFront new old c.args.plane.now) ((new ≡ old) × HasNoneInFront old c.args.plane.now) c.if-branch.true (is_cut (goal.at.returns-in_ok-push c).In_ok-cut))
    (c.in_ok-push.ensures.items ∙ ap (λ (g : Plane). c.args.left.now.items ++ record { inward = g; winding = new } ∷ []) (ap (λ (f : Facet). f.inward) c.facet.view_is))

pub returns-else-branch : goal.returns-else-branch
returns-else-branch c =
    let old = c.args.facet.winding in
    let new = c.cut.new.self in
    none_added c.args.plane.now c.args.facet c.args.left.now.items c.args.left.now.items
    (MatchBool-at_false (IsPartInFront new old c.args.plane.now) ((new ≡ old) × HasNoneInFront old c.args.plane.now) c.if-branch.false (is_cut (goal.at.returns-else-branch c).In_ok-cut)).1 refl
