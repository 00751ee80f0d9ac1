use Rattle.std.proofs.Common.{List, sym, subst, ap, ◌∙◌, true, false}
use Rattle.qm_space.specs.Plane.{Plane, flipped}
use Rattle.qm_convex.specs.Winding.{Winding}
use Rattle.qm_convex.specs.inner.Facets.{Facet}
use Rattle.qm_facets.specs.Body.{IsBody, IsSomeBody, with_plane}
use Rattle.qm_facets.proofs.Bodies.{half_body}
use Rattle.qm_half_spaces.specs.inner.PartedBodies.{IsPartedBy, IsSectionOfBody, with_section}
use Rattle.qm_half_spaces.proofs.body.Body.parted.Goals as goal
use Rattle.qm_half_spaces.proofs.body.Body.parted.Goals.{In_ok-lists, In_ok-closed}

is_parted : (c : In_ok-lists) → IsPartedBy c.args.plane.now c.self.inside.facets.items
is_parted c = subst (IsPartedBy c.args.plane.now) (sym c.self.view_is) c.requires

section_is : (c : In_ok-lists) → IsSectionOfBody c.self.inside.facets.items c.args.plane.now c.in_ok-section.section
section_is c = subst (λ (facets : List Facet). IsSectionOfBody facets c.args.plane.now c.in_ok-section.section) c.deref.ensures.value c.in_ok-section.ensures

front_is : (c : In_ok-lists) (cell : List Plane) → IsBody cell c.self.inside.facets.items → IsBody (with_plane cell c.args.plane.now) (with_section c.in_ok-lists.lists.front.items c.args.plane.now c.in_ok-section.section)
front_is c cell body =
    half_body cell c.self.inside.facets.items body c.args.plane.now (is_parted c).front (is_parted c).behind true c.in_ok-section.section c.in_ok-lists.lists.front.items
    (section_is c cell body) c.in_ok-lists.ensures.front

back_is : (c : In_ok-lists) (cell : List Plane) → IsBody cell c.self.inside.facets.items → IsBody (with_plane cell (flipped c.args.plane.now)) (with_section c.in_ok-lists.lists.back.items (flipped c.args.plane.now) c.in_ok-again.again)
back_is c cell body =
    subst (λ (section : Winding). IsBody (with_plane cell (flipped c.args.plane.now)) (with_section c.in_ok-lists.lists.back.items (flipped c.args.plane.now) section)) (sym c.in_ok-again.ensures.same)
    (half_body cell c.self.inside.facets.items body c.args.plane.now (is_parted c).front (is_parted c).behind false c.in_ok-section.section c.in_ok-lists.lists.back.items
    (section_is c cell body) c.in_ok-lists.ensures.back)

pub section_of-requires-clause-parted : goal.section_of-requires-clause-parted
section_of-requires-clause-parted c = subst (IsPartedBy c.args.plane.now) (sym (c.deref.ensures.value ∙ c.self.view_is)) c.requires

pub section_of-requires-clause-body : goal.section_of-requires-clause-body
section_of-requires-clause-body c = subst IsSomeBody (sym c.deref.ensures.value) c.self.invariant

pub closed-requires : goal.closed-requires
closed-requires c = (with_plane c.self.invariant.0 c.args.plane.now, front_is (goal.at.closed-requires c).In_ok-lists c.self.invariant.0 c.self.invariant.1)

pub closed-requires-2 : goal.closed-requires-2
closed-requires-2 c = (
  with_plane c.self.invariant.0 (flipped c.args.plane.now),
  subst (λ (g : Plane). IsBody (with_plane c.self.invariant.0 (flipped c.args.plane.now)) (with_section c.in_ok-lists.lists.back.items g c.in_ok-again.again)) (sym c.flipped.ensures)
      (back_is (goal.at.closed-requires-2 c).In_ok-lists c.self.invariant.0 c.self.invariant.1),
)

pub returns-clause-front : goal.returns-clause-front
returns-clause-front c = λ cell is.
    subst (λ (facets : List Facet). IsBody (with_plane cell c.args.plane.now) facets) (sym c.in_ok-closed.ensures)
    (front_is (goal.at.returns-clause-front c).In_ok-lists cell (subst (λ (facets : List Facet). IsBody cell facets) (sym c.self.view_is) is))

pub returns-clause-back : goal.returns-clause-back
returns-clause-back c = λ cell is.
    subst (λ (facets : List Facet). IsBody (with_plane cell (flipped c.args.plane.now)) facets) (sym (c.in_ok-closed-2.ensures ∙ ap (λ (g : Plane). with_section c.in_ok-lists.lists.back.items g c.in_ok-again.again) c.flipped.ensures))
    (back_is (goal.at.returns-clause-back c).In_ok-lists cell (subst (λ (facets : List Facet). IsBody cell facets) (sym c.self.view_is) is))
