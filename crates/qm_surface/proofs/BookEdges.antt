-- The edges of pieces lie in faces of the cube and in planes of the book.
use Rattle.std.proofs.Common.{◌<◌, ℕ, Bool, not, List, ◌∷◌, ◌++◌, All, Contains, length, subst}
use Rattle.std.proofs.lemmas.List.Elements.{All-cons, All-append, All-map, All-contains, All-contains_itself, All-weaker}
use Rattle.qm_lists.proofs.Elements.{All-from_map}
use Rattle.qm_space.specs.Point.{Point}
use Rattle.qm_space.specs.Plane.{Plane, IsInFront, flipped}
use Rattle.qm_space.specs.Cell.{IsInCell}
use Rattle.qm_space.specs.Cube.{cube_walls}
use Rattle.qm_space.specs.Turned.{turned}
use Rattle.qm_space.specs.Book.{plane_at}
use Rattle.qm_space.proofs.TurnedPlanes.{turned_other}
use Rattle.qm_convex.specs.Winding.{Winding, HasEdgesAmong}
use Rattle.qm_convex.specs.Cut.{IsPartInFront}
use Rattle.qm_partition.specs.Ways.{Way, turned_to, cell_of_way}
use Rattle.qm_contacts.specs.Meeting.{Meeting}
use Rattle.qm_contacts.specs.Contact.{IsContact, bounds_of_contact}
use Rattle.qm_solids.specs.declared.face.FaceRef.{FaceRef}
use Rattle.qm_solids.specs.Outward.{AreNumberedIn}
use Rattle.qm_surface.specs.Cutting.{cutters}
use Rattle.qm_surface.specs.Covered.{IsBookEdge, of_cube, of_book}
use Rattle.qm_surface.proofs.Cutters.{of_cutters}
use Rattle.qm_surface.proofs.NearPoints.{plane_in_range}

module _ (planes : List Plane) where
  -- a plane of the book, turned to a side, and the same plane turned to the other
  pub record IsBookPlane (g : Plane) : Type 0 where
    pub one : IsBookEdge planes g
    pub other : IsBookEdge planes (flipped g)

  turned_plane : (n : ℕ) (side : Bool) → n < length planes → IsBookPlane (turned side (plane_at planes n))
  turned_plane n side within = record {
    one = of_book n side within;
    other = subst (IsBookEdge planes) (turned_other side (plane_at planes n)) (of_book n (not side) within);
  }

  -- what a brush cuts by
  pub cutters_of_book : (n : ℕ) (faces : List FaceRef) → AreNumberedIn planes faces → All IsBookPlane (cutters planes n faces)
  cutters_of_book n faces numbered =
      of_cutters planes n (λ face. face.plane < length planes) IsBookPlane (λ face other within. turned_plane face.plane face.out_is_front within) faces numbered

  -- what bounds a cell with a point
  cell_of_book : (way : Way) (x : Point) → IsInCell (cell_of_way planes way) x → All (IsBookEdge planes) (cell_of_way planes way)
  cell_of_book way x inside =
      All-map (IsBookEdge planes) (turned_to planes) way
      (All-weaker (λ step. IsInFront (turned_to planes step) x) (λ step. IsBookEdge planes (turned_to planes step))
      (λ step front. of_book step.plane step.front (plane_in_range planes step.front step.plane x front)) way
      (All-from_map (λ g. IsInFront g x) (turned_to planes) way inside))

  walls_of_cube : All (IsBookEdge planes) cube_walls
  walls_of_cube = All-weaker (Contains cube_walls) (IsBookEdge planes) (λ wall has. of_cube has) cube_walls (All-contains_itself cube_walls)

  bounds_of_book : (m : Meeting) (x : Point) → IsContact planes m x → All (IsBookEdge planes) (bounds_of_contact planes m)
  bounds_of_book m x contact =
      let above = cell_of_way planes m.above in
      let front = cell_of_way planes m.front.way in
      let back = cell_of_way planes m.back.way in
      All-append (IsBookEdge planes) cube_walls (above ++ (front ++ back)) walls_of_cube
      (All-append (IsBookEdge planes) above (front ++ back) (cell_of_book m.above x contact.above)
      (All-append (IsBookEdge planes) front back (cell_of_book m.front.way x contact.in_front) (cell_of_book m.back.way x contact.behind)))

  -- the edges of a polygon of contact, and of a part of a polygon with such edges
  pub edges_of_contact : (v : Winding) (m : Meeting) (x : Point) → IsContact planes m x → HasEdgesAmong v (bounds_of_contact planes m) → All (IsBookEdge planes) v.edges
  edges_of_contact v m x contact among =
      All-weaker (Contains (bounds_of_contact planes m)) (IsBookEdge planes) (λ g has. All-contains (IsBookEdge planes) (bounds_of_contact planes m) g (bounds_of_book m x contact) has) v.edges among

  pub edges_of_part : (w v : Winding) (g : Plane) → IsBookEdge planes g → All (IsBookEdge planes) w.edges → IsPartInFront v w g → All (IsBookEdge planes) v.edges
  edges_of_part w v g of_g of_w part =
      All-weaker (Contains (g ∷ w.edges)) (IsBookEdge planes) (λ e has. All-contains (IsBookEdge planes) (g ∷ w.edges) e (All-cons (IsBookEdge planes) g w.edges of_g of_w) has) v.edges part.edges
