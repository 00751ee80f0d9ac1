use Rattle.std.proofs.Common.{◌≡◌, [], List, map, ap, sym, subst, ◌∙◌}
use Rattle.qm_space.specs.Plane.{Plane}
use Rattle.qm_space.specs.Cube.{cube_walls}
use Rattle.qm_convex.specs.inner.Facets.{Facet, inward_of}
use Rattle.qm_convex.proofs.AxialBounds.{walls_are_axial}
use Rattle.qm_contacts.specs.inner.Descent.{AreBounds, AreWallFacets}
use Rattle.qm_contacts.proofs.Descent.{facets_at_root, bounds_at_root}
use Rattle.qm_contacts.proofs.CellBounds.{planes_of_faces}
use Rattle.qm_portal.specs.inner.Cells.{BeginAxially}
use Rattle.qm_portal.proofs.finding.cube_cell.Goals as goal
use Rattle.qm_portal.proofs.finding.cube_cell.Goals.{In_ok-bounds}

walls : (c : In_ok-bounds) → c.in_ok-bounds.bounds.items ≡ cube_walls
walls c = c.in_ok-bounds.ensures ∙ ap (map inward_of) (c.deref.ensures.value ∙ c.in_ok-on_walls.ensures) ∙ planes_of_faces c.in_ok-faces.faces.items c.in_ok-faces.ensures

pub invariant_of-result : goal.invariant_of-result
invariant_of-result c = subst BeginAxially (sym (walls (goal.at.invariant_of-result c).In_ok-bounds)) walls_are_axial

pub returns : goal.returns
returns c = record {
  child_is = c.root.ensures;
  bounds =
      subst (λ (bounds : List Plane). AreBounds c.args.tree.now.planes [] bounds) (sym (walls (goal.at.returns c).In_ok-bounds)) (bounds_at_root c.args.tree.now.planes);
  facets =
      subst (λ (facets : List Facet). AreWallFacets c.args.tree.now.planes [] facets) (sym c.in_ok-on_walls.ensures)
      (facets_at_root c.args.tree.now.planes c.in_ok-faces.faces.items c.in_ok-faces.ensures);
}
