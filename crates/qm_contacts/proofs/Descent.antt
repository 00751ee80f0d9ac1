-- From the root down: each leaf below has a point, so each node has a section, and each side of it the facets of its cell.
use Rattle.std.proofs.Common.{◌≡◌, ℕ, Bool, true, false, List, [], ◌∷◌, ◌++◌, All, map, Contains, sym, ap, ◌∙◌, subst, arith, Some, ◌⊎◌, ⊎_elim, ◌↔◌}
use Rattle.std.specs.Prelude.{slice_get}
use Rattle.std.specs.List.{AllZip}
use Rattle.std.proofs.lemmas.List.{map-append}
use Rattle.std.proofs.lemmas.List.Elements.{All-nil, All-cons, All-head, All-tail, All-push, All-pop, All-append, All-contains, All-contains_itself, All-weaker, Contains-append_left, Contains-append_right, Contains-push}
use Rattle.qm_lists.proofs.Elements.{Contains-map, Contains-first, Contains-cons_cases, All-first_part, All-last_part}
use Rattle.qm_space.specs.Point.{Point, IsInCube}
use Rattle.qm_space.specs.Plane.{Plane, IsOn, IsInFront}
use Rattle.qm_space.specs.Turned.{turned}
use Rattle.qm_space.specs.Cell.{IsInCell}
use Rattle.qm_space.specs.Cube.{cube_walls, IsOnCubeFace}
use Rattle.qm_space.specs.Book.{plane_at}
use Rattle.qm_space.specs.Multiple.{HasSameSides}
use Rattle.qm_numbers.proofs.IntegerProducts.{linear}
use Rattle.qm_space.proofs.Planes.{flipped_in_front}
use Rattle.qm_space.proofs.TurnedPlanes.{turned_on}
use Rattle.qm_space.proofs.SameSides.{same_in_front}
use Rattle.qm_space.proofs.Cubes.{cube_is_cell}
use Rattle.qm_convex.specs.Winding.{Winding, IsInRegion}
use Rattle.qm_convex.specs.World.{IsCubeFace}
use Rattle.qm_convex.specs.inner.Facets.{IsOnFacet, Facet, facing_in, IsFacet, HasNoFacet, AreFacetsOn, none, facet, hidden, AreCut}
use Rattle.qm_convex.specs.Section.{IsSection}
use Rattle.qm_convex.proofs.Central.{has_a_point}
use Rattle.qm_convex.proofs.ImpliedPlanes.{beside_of_cell}
use Rattle.qm_convex.proofs.Facets.{crosses_cell, left_of_side}
use Rattle.qm_convex.proofs.CubeFacets.{face_is_facet, cube_facets}
use Rattle.qm_partition.specs.Partition.{Partition, leaf, node}
use Rattle.qm_partition.specs.Tree.{Tree}
use Rattle.qm_partition.specs.Ways.{Way, after_step, ways, turned_to, cell_of_way, HasPoints}
use Rattle.qm_contacts.specs.Meeting.{then_step}
use Rattle.qm_contacts.specs.Outside.{TouchesOutside}
use Rattle.qm_contacts.specs.inner.Bounds.{IsBoundAdded}
use Rattle.qm_contacts.specs.inner.Pieces.{walled_cell}
use Rattle.qm_contacts.specs.inner.Descent.{HasPointsBelow, AreBounds, AreWallFacets}
use Rattle.qm_contacts.proofs.Pieces.{walled_split}

-- one step more
pub cell-then_step : (planes : List Plane) (above : Way) (n : ℕ) (side : Bool) → cell_of_way planes (then_step above n side) ≡ cell_of_way planes above ++ turned side (plane_at planes n) ∷ []
cell-then_step planes above n side = map-append (turned_to planes) above (record { plane = n; front = side } ∷ [])

pub walled-then_step : (planes : List Plane) (above : Way) (n : ℕ) (side : Bool) → walled_cell planes (then_step above n side) ≡ walled_cell planes above ++ turned side (plane_at planes n) ∷ []
walled-then_step planes above n side = ap (λ (cell : List Plane). cube_walls ++ cell) (cell-then_step planes above n side)

-- ---- points

pub points_at_root : (tree : Tree) → HasPoints tree → HasPointsBelow tree.planes [] tree.shape
points_at_root tree have way listed =
    let found = have way listed in
    (found.0, (walled_split tree.planes [] found.0).1 (found.1.in_cube, All-nil (λ h. IsInFront h found.0)), found.1.in_cell)

module _ (planes : List Plane) (above : Way) (n : ℕ) (front back : Partition) (have : HasPointsBelow planes above (node n front back)) where
  side_point : (side : Bool) (way : Way) → Contains (ways (node n front back)) (after_step n side way) → (x : Point) × IsInCell (walled_cell planes (then_step above n side)) x × IsInCell (cell_of_way planes way) x
  side_point side way listed =
      let found = have (after_step n side way) listed in
      let x = found.0 in
      let h = turned side (plane_at planes n) in (
        x,
        subst (λ (cell : List Plane). IsInCell cell x) (sym (walled-then_step planes above n side)) (All-push (λ g. IsInFront g x) (walled_cell planes above) h found.1 (All-head (λ g. IsInFront g x) h (cell_of_way planes way) found.2)),
        All-tail (λ g. IsInFront g x) h (cell_of_way planes way) found.2,
      )

  pub points_in_front : HasPointsBelow planes (then_step above n true) front
  points_in_front way listed = side_point true way (Contains-append_left (map (after_step n true) (ways front)) (map (after_step n false) (ways back)) (after_step n true way) (Contains-map (after_step n true) (ways front) way listed))

  pub points_behind : HasPointsBelow planes (then_step above n false) back
  points_behind way listed = side_point false way (Contains-append_right (map (after_step n true) (ways front)) (map (after_step n false) (ways back)) (after_step n false way) (Contains-map (after_step n false) (ways back) way listed))

-- there is a way to some leaf
some_way : (shape : Partition) → (way : Way) × Contains (ways shape) way
some_way (leaf found) = ([], Contains-first [] [])
some_way (node n front back) =
    let found = some_way front in
    (after_step n true found.0, Contains-append_left (map (after_step n true) (ways front)) (map (after_step n false) (ways back)) (after_step n true found.0) (Contains-map (after_step n true) (ways front) found.0 found.1))

pub cell_point : (planes : List Plane) (above : Way) (shape : Partition) → HasPointsBelow planes above shape → (x : Point) × IsInCell (walled_cell planes above) x
cell_point planes above shape have =
    let some = some_way shape in
    let found = have some.0 some.1 in
    (found.0, found.1)

-- a point of a node's plane in its cell
pub section_point : (planes : List Plane) (above : Way) (n : ℕ) (front back : Partition) → HasPointsBelow planes above (node n front back) → (x : Point) × IsOn (plane_at planes n) x × IsInCell (walled_cell planes above) x
section_point planes above n front back have = crosses_cell (walled_cell planes above) h p.0 q.0 (before true p.0 p.1) (last true p.0 p.1) (before false q.0 q.1) ((flipped_in_front h q.0).0 (last false q.0 q.1))
  where
    h : Plane
    h = plane_at planes n

    p : (x : Point) × IsInCell (walled_cell planes (then_step above n true)) x
    p = cell_point planes (then_step above n true) front (points_in_front planes above n front back have)

    q : (x : Point) × IsInCell (walled_cell planes (then_step above n false)) x
    q = cell_point planes (then_step above n false) back (points_behind planes above n front back have)

    both : (side : Bool) (x : Point) → IsInCell (walled_cell planes (then_step above n side)) x → IsInCell (walled_cell planes above) x × IsInFront (turned side (plane_at planes n)) x
    both side x inside =
        All-pop (λ g. IsInFront g x) (walled_cell planes (then_step above n side)) (walled_cell planes above) (Some (turned side (plane_at planes n))) (walled-then_step planes above n side) inside

    before : (side : Bool) (x : Point) → IsInCell (walled_cell planes (then_step above n side)) x → IsInCell (walled_cell planes above) x
    before side x inside = (both side x inside).0

    last : (side : Bool) (x : Point) → IsInCell (walled_cell planes (then_step above n side)) x → IsInFront (turned side (plane_at planes n)) x
    last side x inside = (both side x inside).1

-- ---- facets

-- the plane of a section has not the sides of a wall of the cube
section_is_no_wall : (planes : List Plane) (above : Way) (n : ℕ) (side : Bool) (wall : Plane) (x : Point) → IsOn (plane_at planes n) x → IsInCube x → Contains cube_walls wall → HasSameSides (turned side (plane_at planes n)) wall → ⊥
section_is_no_wall planes above n side wall x on in_cube is_wall same =
    let h = turned side (plane_at planes n) in
    let there = (turned_on side (plane_at planes n) x).1 on in
    let front = same_in_front h wall x same (All-contains (λ g. IsInFront g x) cube_walls wall ((cube_is_cell x).0 in_cube) is_wall) in
    absurd (omega (arith, linear))

pub facets_at_root : (planes : List Plane) (faces : List Winding) → AllZip IsCubeFace faces cube_walls → AreWallFacets planes [] (map facing_in faces)
facets_at_root planes faces are = record { walls = cube_facets faces are; apart = All-nil (λ g. (wall : Plane) → Contains cube_walls wall → HasSameSides g wall → ⊥) }

-- the facets on walls of the cell on one side of a node
pub facets_below : (planes : List Plane) (above : Way) (n : ℕ) (side : Bool) (section : Winding) (on_walls walls : List Facet) → IsSection (walled_cell planes above) (plane_at planes n) section → AreWallFacets planes above on_walls → AreCut (turned side (plane_at planes n)) on_walls walls → AreWallFacets planes (then_step above n side) walls
facets_below planes above n side section on_walls walls is are cut_walls = record {
  walls = subst (λ (c : List Plane). AreFacetsOn c cube_walls walls) (sym (walled-then_step planes above n side)) (left_of_side (walled_cell planes above) (plane_at planes n) side section is cube_walls on_walls walls (λ x inside. (cube_is_cell x).0 (in_cube x inside)) are.walls cut_walls);
  apart = subst (All (λ g. (wall : Plane) → Contains cube_walls wall → HasSameSides g wall → ⊥)) (sym (cell-then_step planes above n side))
      (All-push (λ g. (wall : Plane) → Contains cube_walls wall → HasSameSides g wall → ⊥) (cell_of_way planes above) (turned side (plane_at planes n)) are.apart
      (λ wall is_wall same. section_is_no_wall planes above n side wall point.0 ((is.points point.0).0 point.1).0 (in_cube point.0 ((is.points point.0).0 point.1).1) is_wall same));
}
  where
    in_cube : (x : Point) → IsInCell (walled_cell planes above) x → IsInCube x
    in_cube x inside = ((walled_split planes above x).0 inside).0

    point : (p : Point) × IsInRegion section p
    point = has_a_point section is.convex

-- ---- bounds

pub bounds_at_root : (planes : List Plane) → AreBounds planes [] cube_walls
bounds_at_root planes = record { points = λ x weight. ((λ inside. inside), (λ inside. inside)); among = All-contains_itself cube_walls }

-- the bounds of the cell on one side of a node
pub bounds_below : (planes : List Plane) (above : Way) (n : ℕ) (side : Bool) (bounds half : List Plane) → AreBounds planes above bounds → IsBoundAdded (turned side (plane_at planes n)) bounds half → AreBounds planes (then_step above n side) half
bounds_below planes above n side bounds half are added = record {
  points = λ x weight. (
    (λ inside.
        let both = All-pop (λ g. IsInFront g x) (walled_cell planes (then_step above n side)) (walled_cell planes above) (Some (turned side (plane_at planes n))) (walled-then_step planes above n side) inside in
        (added.points x weight).1 ((are.points x weight).0 both.0, both.1)),
    (λ inside.
        let both = (added.points x weight).0 inside in
        subst (λ (cell : List Plane). IsInCell cell x) (sym (walled-then_step planes above n side)) (All-push (λ g. IsInFront g x) (walled_cell planes above) (turned side (plane_at planes n)) ((are.points x weight).1 both.0) both.1)),
  );
  among = subst (λ (cell : List Plane). All (Contains cell) half) (sym (walled-then_step planes above n side)) among;
}
  where
    among : All (Contains (walled_cell planes above ++ turned side (plane_at planes n) ∷ [])) half
    among = All-weaker (Contains (turned side (plane_at planes n) ∷ bounds)) (Contains (walled_cell planes above ++ turned side (plane_at planes n) ∷ []))
        (λ g has. ⊎_elim
        (λ same. subst (Contains (walled_cell planes above ++ turned side (plane_at planes n) ∷ [])) same (Contains-push (walled_cell planes above) (turned side (plane_at planes n))))
        (λ old. Contains-append_left (walled_cell planes above) (turned side (plane_at planes n) ∷ []) g (All-contains (Contains (walled_cell planes above)) bounds g are.among old))
        (Contains-cons_cases (turned side (plane_at planes n)) g bounds has))
        half added.among

-- ---- the outside

module _ (planes : List Plane) (way : Way) (wall : Plane) (is_wall : Contains cube_walls wall) (apart : All (λ g. (wall : Plane) → Contains cube_walls wall → HasSameSides g wall → ⊥) (cell_of_way planes way)) (x : Point) where
  abbrev Beside : Plane → Type 0
  Beside g = HasSameSides g wall ⊎ IsInFront g x

  -- a point of a facet on a wall is strictly inside a face of the cube, and in the cell
  pub facet_outside : IsOnFacet (walled_cell planes way) wall x ↔ (IsOnCubeFace wall x × IsInCell (cell_of_way planes way) x)
  facet_outside = (
    (λ f.
        let on_cube = All-first_part Beside cube_walls (cell_of_way planes way) f.inside in
        let in_steps = All-last_part Beside cube_walls (cell_of_way planes way) f.inside in (
          (face_is_facet wall x is_wall).1 (record { weight = f.weight; on = f.on; inside = on_cube }),
          λ place d there. ⊎_elim (λ same. absurd (apart place d there wall is_wall same)) (λ front. front) (in_steps place d there),
        )),
    (λ both.
        let f = (face_is_facet wall x is_wall).0 both.0 in
        record { weight = f.weight; on = f.on; inside = All-append Beside cube_walls (cell_of_way planes way) f.inside (beside_of_cell (cell_of_way planes way) wall x both.1) }),
  )

first_wall : (cell planes : List Plane) (found : Facet) (rest : List Facet) → All (Contains cube_walls) planes → AreFacetsOn cell planes (found ∷ rest) → Contains cube_walls found.inward × IsFacet cell found
first_wall cell planes found rest listed (facet {planes = others} is have) = (All-head (Contains cube_walls) found.inward others listed, is)
first_wall cell planes found rest listed (hidden {h = h} {planes = others} never have) = first_wall cell others found rest (All-tail (Contains cube_walls) h others listed) have

none_on : (cell planes : List Plane) → AreFacetsOn cell planes [] → All (HasNoFacet cell) planes
none_on cell planes none = All-nil (HasNoFacet cell)
none_on cell planes (hidden {h = h} {planes = others} never have) = All-cons (HasNoFacet cell) h others never (none_on cell others have)

-- the leaf at the end of the way touches the outside exactly where its cell has a facet on a wall
pub touches_outside : (tree : Tree) (k : ℕ) (way : Way) (found : Facet) (rest : List Facet) → slice_get (ways tree.shape) k ≡ Some way → AreWallFacets tree.planes way (found ∷ rest) → TouchesOutside tree k
touches_outside tree k way found rest way_is are =
    let first = first_wall (walled_cell tree.planes way) cube_walls found rest (All-contains_itself cube_walls) are.walls in
    let point = has_a_point found.winding first.1.convex in
    let both = (facet_outside tree.planes way found.inward first.0 are.apart point.0).0 ((first.1.points point.0).0 point.1) in
    record { way = way; way_is = way_is; wall = found.inward; is_wall = first.0; point = point.0; on_face = both.0; in_cell = both.1 }

pub not_outside : (tree : Tree) (k : ℕ) (way : Way) → slice_get (ways tree.shape) k ≡ Some way → AreWallFacets tree.planes way [] → TouchesOutside tree k → ⊥
not_outside tree k way way_is are outside =
    let none_there = All-contains (HasNoFacet (walled_cell tree.planes way)) cube_walls outside.wall (none_on (walled_cell tree.planes way) cube_walls are.walls) outside.is_wall in
    none_there outside.point ((facet_outside tree.planes way outside.wall outside.is_wall are.apart outside.point).1 (outside.on_face, subst (λ (w : Way). IsInCell (cell_of_way tree.planes w) outside.point) same outside.in_cell))
  where
    same : outside.way ≡ way
    same = let e = sym outside.way_is ∙ way_is in cc
