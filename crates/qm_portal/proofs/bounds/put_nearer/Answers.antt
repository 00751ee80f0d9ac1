use Rattle.std.proofs.Common.{refl, ap, ◌∙◌, subst, ◌≤ℤ◌, set, get_or, arith}
use Rattle.std.proofs.lemmas.Int.{ints}
use Rattle.std.proofs.lemmas.List.{get_or_default}
use Rattle.qm_space.specs.Plane.{Plane}
use Rattle.qm_contacts.proofs.CellBounds.{bound_farther, bound_nearer}
use Rattle.qm_portal.proofs.AxialBounds.{axial_nearer_set}
use Rattle.qm_portal.proofs.bounds.put_nearer.Goals as goal
use Rattle.qm_portal.proofs.bounds.put_nearer.Goals.{Then-plane-index}

-- the plane is nearer than the one at the place
nearer : (c : Then-plane-index) → (get_or c.args.bounds.now.items c.args.place c.args.plane.now).d ≤ℤ c.args.plane.now.d
nearer c =
    subst (λ (g : Plane). g.d ≤ℤ c.args.plane.now.d) (c.behind-bounds.view_is ∙ c.index.ensures ∙ get_or_default c.args.bounds.now.items c.args.place c.index.result.now c.args.plane.now c.requires.place.within)
    (subst (λ (g : Plane). c.behind-bounds.inside.d ≤ℤ g.d) c.plane.view_is
    (let t = c.if-plane-index.true in let b = c.plane.invariant.d_small in let b' = c.behind-bounds.invariant.d_small in omega (arith, ints)))

pub returns-then-plane-index-clause-added : goal.returns-then-plane-index-clause-added
returns-then-plane-index-clause-added c =
    bound_nearer c.args.plane.now c.args.bounds.now.items c.args.place (get_or c.args.bounds.now.items c.args.place c.args.plane.now) c.requires.place.within refl c.requires.place.same _
    (ap (set c.args.bounds.now.items c.args.place) c.plane.view_is)
    (nearer (goal.at.returns-then-plane-index-clause-added c).Then-plane-index)

pub returns-then-plane-index-clause-axial : goal.returns-then-plane-index-clause-axial
returns-then-plane-index-clause-axial c =
    axial_nearer_set c.args.bounds.now.items _ c.args.place c.args.plane.now c.requires.place.same (nearer (goal.at.returns-then-plane-index-clause-axial c).Then-plane-index)
    (ap (set c.args.bounds.now.items c.args.place) c.plane.view_is) c.requires.axial

pub returns-else-plane-index-clause-added : goal.returns-else-plane-index-clause-added
returns-else-plane-index-clause-added c =
    bound_farther c.args.plane.now c.args.bounds.now.items c.args.place (get_or c.args.bounds.now.items c.args.place c.args.plane.now) c.requires.place.within refl c.requires.place.same
    (subst (λ (g : Plane). c.args.plane.now.d ≤ℤ g.d) (c.behind-bounds.view_is ∙ c.index.ensures ∙ get_or_default c.args.bounds.now.items c.args.place c.index.result.now c.args.plane.now c.requires.place.within)
    (subst (λ (g : Plane). g.d ≤ℤ c.behind-bounds.inside.d) c.plane.view_is
    (let t = c.if-plane-index.false in let b = c.plane.invariant.d_small in let b' = c.behind-bounds.invariant.d_small in omega (arith, ints))))
