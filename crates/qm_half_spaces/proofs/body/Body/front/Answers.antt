use Rattle.std.proofs.Common.{◌≡◌, List, sym, ◌∙◌, subst, true}
use Rattle.std.proofs.lemmas.Result.{IfOk-weaker}
use Rattle.qm_space.specs.Plane.{Plane}
use Rattle.qm_convex.specs.inner.Facets.{Facet}
use Rattle.qm_facets.specs.Body.{IsBody, IsSomeBody, with_plane}
use Rattle.qm_facets.proofs.Bodies.{half_body}
use Rattle.qm_half_spaces.specs.inner.PartedBodies.{IsPartedBy, IsSectionOfBody, with_section}
use Rattle.qm_half_spaces.proofs.body.Body.front.Goals as goal
use Rattle.qm_half_spaces.proofs.body.Body.front.Goals.{In_ok-left}

front_is : (c : In_ok-left) (cell : List Plane) → IsBody cell c.self.inside.facets.items → IsBody (with_plane cell c.args.plane.now) (with_section c.in_ok-left.left.items c.args.plane.now c.in_ok-section.section)
front_is c cell body =
    let parted = subst (IsPartedBy c.args.plane.now) (sym c.self.view_is) c.requires in
    half_body cell c.self.inside.facets.items body c.args.plane.now parted.front parted.behind true c.in_ok-section.section c.in_ok-left.left.items
    ((subst (λ (facets : List Facet). IsSectionOfBody facets c.args.plane.now c.in_ok-section.section) c.deref.ensures.value c.in_ok-section.ensures) cell body) c.in_ok-left.ensures

pub section_of-requires-clause-parted : goal.section_of-requires-clause-parted
section_of-requires-clause-parted c = subst (IsPartedBy c.args.plane.now) (sym (c.deref.ensures.value ∙ c.self.view_is)) c.requires

pub section_of-requires-clause-body : goal.section_of-requires-clause-body
section_of-requires-clause-body c = subst IsSomeBody (sym c.deref.ensures.value) c.self.invariant

pub closed-requires : goal.closed-requires
closed-requires c = (with_plane c.self.invariant.0 c.args.plane.now, front_is (goal.at.closed-requires c).In_ok-left c.self.invariant.0 c.self.invariant.1)

pub returns : goal.returns
returns c =
    IfOk-weaker c.closed.result (λ left. left ≡ with_section c.in_ok-left.left.items c.args.plane.now c.in_ok-section.section)
    (λ left. (cell : List Plane) → IsBody cell c.args.self → IsBody (with_plane cell c.args.plane.now) left)
    (λ left same cell is.
    subst (λ (facets : List Facet). IsBody (with_plane cell c.args.plane.now) facets) (sym same)
    (front_is (goal.at.returns c).In_ok-left cell (subst (λ (facets : List Facet). IsBody cell facets) (sym c.self.view_is) is)))
    c.closed.ensures
