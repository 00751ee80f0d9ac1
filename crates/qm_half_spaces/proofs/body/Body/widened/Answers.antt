use Rattle.std.proofs.Common.{List, subst, sym, ◌∙◌}
use Rattle.qm_convex.specs.inner.Facets.{Facet}
use Rattle.qm_facets.specs.inner.Joined.{IsJoined, HasCornersOfAll, AreConvexFacets}
use Rattle.qm_facets.proofs.JoinedCorners.{convex_facets, body_joined}
use Rattle.qm_half_spaces.proofs.body.Body.widened.Goals as goal

pub with_facets-requires : goal.with_facets-requires
with_facets-requires c = subst AreConvexFacets (sym c.deref.ensures.value) (convex_facets c.self.invariant.0 c.self.inside.facets.items c.self.invariant.1)

pub returns : goal.returns
returns c = λ cell is.
    body_joined cell c.args.self.now c.args.so_far c.with_facets.result is
    (subst (λ (facets : List Facet). IsJoined c.args.so_far (HasCornersOfAll facets) c.with_facets.result) (c.deref.ensures.value ∙ c.self.view_is) c.with_facets.ensures)
