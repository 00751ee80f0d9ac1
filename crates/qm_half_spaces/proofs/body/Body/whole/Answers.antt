use Rattle.std.proofs.Common.{[], List, sym, subst}
use Rattle.qm_convex.specs.inner.Facets.{Facet}
use Rattle.qm_facets.specs.Body.{IsBody}
use Rattle.qm_facets.proofs.Bodies.{cube_body}
use Rattle.qm_half_spaces.proofs.body.Body.whole.Goals as goal
use Rattle.qm_half_spaces.proofs.body.Body.whole.Goals.{In_ok-facets}

body_is : (c : In_ok-facets) → IsBody [] c.in_ok-facets.facets.items
body_is c = subst (λ (facets : List Facet). IsBody [] facets) (sym c.in_ok-facets.ensures) (cube_body c.in_ok-faces.faces.items c.in_ok-faces.ensures)

pub invariant_of-result : goal.invariant_of-result
invariant_of-result c = ([], body_is (goal.at.invariant_of-result c).In_ok-facets)

pub returns : goal.returns
returns c = body_is (goal.at.returns c).In_ok-facets
