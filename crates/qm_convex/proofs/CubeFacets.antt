-- The cube's faces are the facets of the cell of its walls.
use Rattle.std.proofs.Common.{◌≡◌, List, [], ◌∷◌, All, Contains, get_or, map, sym, subst, ◌⊎◌, inl, inr, ⊎_elim, ◌↔◌}
use Rattle.std.specs.List.{AllZip}
use Rattle.std.proofs.lemmas.List.Elements.{All-head, All-tail, All-contains_itself, Contains-get_or}
use Rattle.qm_space.specs.Point.{Point}
use Rattle.qm_space.specs.Plane.{Plane, IsInFront}
use Rattle.qm_space.specs.Multiple.{HasSameSides}
use Rattle.qm_space.specs.Cube.{cube_walls, IsOnCubeFace}
use Rattle.qm_space.proofs.SameSides.{same_sides_itself}
use Rattle.qm_space.proofs.CubeFaces.{by_same_plane, one_wall}
use Rattle.qm_convex.specs.Winding.{Winding}
use Rattle.qm_convex.specs.World.{IsCubeFace}
use Rattle.qm_convex.specs.inner.Facets.{IsOnFacet, IsFacet, AreFacetsOn, AreFacets, none, facet, facing_in}

-- the points of a face are those of the facet
pub face_is_facet : (wall : Plane) (x : Point) → Contains cube_walls wall → IsOnCubeFace wall x ↔ IsOnFacet cube_walls wall x
face_is_facet wall x is_wall = (
  (λ f. record { weight = f.weight; on = f.on; inside = λ place d there. beside (get_or cube_walls place d) (f.inside place d there) }),
  (λ f. record { weight = f.weight; on = f.on; inside = λ place d there other. ahead (get_or cube_walls place d) (Contains-get_or cube_walls place d there) other (f.inside place d there) }),
)
  where
    beside : (g : Plane) → ((g ≡ wall → ⊥) → IsInFront g x) → HasSameSides g wall ⊎ IsInFront g x
    beside g front = by_same_plane g wall
        (λ e. inl (subst (λ (h : Plane). HasSameSides g h) e (same_sides_itself g)))
        (λ other. inr (front other))

    ahead : (g : Plane) → Contains cube_walls g → (g ≡ wall → ⊥) → HasSameSides g wall ⊎ IsInFront g x → IsInFront g x
    ahead g listed other either = ⊎_elim (λ same. absurd (other (one_wall g wall listed is_wall same))) (λ front. front) either

module _ (face : Winding) (wall : Plane) (is_wall : Contains cube_walls wall) (is : IsCubeFace face wall) where
  on_its_wall : (x : Point) → IsOnFacet cube_walls wall x → IsOnFacet cube_walls face.plane x
  on_its_wall x f = subst (λ (h : Plane). IsOnFacet cube_walls h x) (sym is.plane) f

  of_its_wall : (x : Point) → IsOnFacet cube_walls face.plane x → IsOnFacet cube_walls wall x
  of_its_wall x f = subst (λ (h : Plane). IsOnFacet cube_walls h x) is.plane f

  one_facet : IsFacet cube_walls (facing_in face)
  one_facet = record {
    convex = is.convex;
    points = λ x. ((λ r. on_its_wall x ((face_is_facet wall x is_wall).0 ((is.points x).0 r))), (λ f. (is.points x).1 ((face_is_facet wall x is_wall).1 (of_its_wall x f))));
  }

facets_on_walls : (faces : List Winding) (walls : List Plane) → All (Contains cube_walls) walls → AllZip IsCubeFace faces walls → AreFacetsOn cube_walls walls (map facing_in faces)
facets_on_walls [] [] listed are = none
facets_on_walls [] (wall ∷ walls) listed are = absurd are
facets_on_walls (face ∷ faces) [] listed are = absurd are
facets_on_walls (face ∷ faces) (wall ∷ walls) listed are =
    subst (λ (h : Plane). AreFacetsOn cube_walls (h ∷ walls) (facing_in face ∷ map facing_in faces)) are.0.plane
    (facet (one_facet face wall (All-head (Contains cube_walls) wall walls listed) are.0) (facets_on_walls faces walls (All-tail (Contains cube_walls) wall walls listed) are.1))

-- so the cell of the walls, which is the cube, begins with these facets
pub cube_facets : (faces : List Winding) → AllZip IsCubeFace faces cube_walls → AreFacets cube_walls (map facing_in faces)
cube_facets faces are = facets_on_walls faces cube_walls (All-contains_itself cube_walls) are
