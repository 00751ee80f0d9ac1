-- How a polygon is pushed down a tree, and how the pieces of a node's section give the contacts at the node.
use Rattle.std.proofs.Common.{ℕ, Bool, List, [], ◌∷◌, ◌++◌, map, All, Contains, refl, sym, ◌∙◌, subst, ◌↔◌, arith}
use Rattle.std.proofs.lemmas.List.Concat.{flat_map-cons}
use Rattle.std.proofs.lemmas.List.Elements.{All-cons, All-head, All-tail, All-append, All-contains_itself}
use Rattle.qm_lists.proofs.Elements.{All-first_part, All-last_part, Contains-first}
use Rattle.qm_space.specs.Point.{Point, IsInCube}
use Rattle.qm_space.specs.Plane.{Plane, IsInFront}
use Rattle.qm_space.specs.Turned.{turned}
use Rattle.qm_space.specs.Cell.{IsInCell}
use Rattle.qm_space.specs.Cube.{cube_walls}
use Rattle.qm_space.specs.Book.{plane_at}
use Rattle.qm_numbers.proofs.IntegerProducts.{linear}
use Rattle.qm_space.proofs.Cubes.{cube_is_cell}
use Rattle.qm_convex.specs.Winding.{Winding, IsInRegion, IsConvex}
use Rattle.qm_convex.specs.Cut.{IsPartInFront, IsPartWithin}
use Rattle.qm_convex.specs.Sides.{HasNoneInFront}
use Rattle.qm_convex.specs.Section.{IsSection}
use Rattle.qm_convex.proofs.Among.{first_among, second_among, own_edges, edges_among, edges_of_part, edges_within}
use Rattle.qm_convex.proofs.Cutting.{all_at_first}
use Rattle.qm_partition.specs.declared.node.Leaf.{Leaf}
use Rattle.qm_partition.specs.Partition.{leaf}
use Rattle.qm_partition.specs.Ways.{Way, after_step, cell_of_way}
use Rattle.qm_contacts.specs.Meeting.{LeafBelow, Meeting, seen_from, leaves_below, meeting_at, meetings_at}
use Rattle.qm_contacts.specs.Contact.{IsContact, bounds_of_contact}
use Rattle.qm_contacts.specs.Touching.{Touching, AreTouchings, none, touching, apart}
use Rattle.qm_contacts.specs.inner.Pieces.{walled_cell, LeafPiece, HasNoPiece, ArePieces, no_pieces, piece, nothing, touching_at, ArePiecesOfEach, no_rows, row}

-- ---- a cell with the walls of the cube

pub walled_split : (planes : List Plane) (way : Way) (x : Point) → IsInCell (walled_cell planes way) x ↔ (IsInCube x × IsInCell (cell_of_way planes way) x)
walled_split planes way x = (
  (λ inside. ((cube_is_cell x).1 (All-first_part (λ h. IsInFront h x) cube_walls (cell_of_way planes way) inside), All-last_part (λ h. IsInFront h x) cube_walls (cell_of_way planes way) inside)),
  (λ both. All-append (λ h. IsInFront h x) cube_walls (cell_of_way planes way) ((cube_is_cell x).0 both.0) both.1),
)

-- ---- the pieces of a polygon

module _ (planes : List Plane) where
  pub pieces_append : (whole : Winding) (first second : List LeafBelow) (pieces others : List LeafPiece) → ArePieces planes whole first pieces → ArePieces planes whole second others → ArePieces planes whole (first ++ second) (pieces ++ others)
  pieces_append whole first second pieces others no_pieces more = more
  pieces_append whole first second pieces others (piece part have) more = piece part (pieces_append whole _ second _ others have more)
  pieces_append whole first second pieces others (nothing never have) more = nothing never (pieces_append whole _ second _ others have more)

  -- a leaf has all of the polygon that comes to it
  pub piece_at_leaf : (whole : Winding) (found : Leaf) (k : ℕ) → IsConvex whole → ArePieces planes whole (leaves_below (leaf found) k) (record { leaf = k; winding = whole } ∷ [])
  piece_at_leaf whole found k convex = piece (all_at_first whole convex) no_pieces

  module _ (n : ℕ) (side : Bool) (part whole : Winding) (is_part : IsPartInFront part whole (turned side (plane_at planes n))) where
    abbrev h : Plane
    h = turned side (plane_at planes n)

    seen_part : (winding : Winding) (way : Way) → IsPartWithin winding part (cell_of_way planes way) → IsPartWithin winding whole (cell_of_way planes (after_step n side way))
    seen_part winding way within = record {
      convex = within.convex;
      plane = within.plane ∙ is_part.plane;
      points = λ x. (
        (λ r.
            let q = (within.points x).0 r in
            let p = (is_part.points x).0 q.0 in
            (p.0, All-cons (λ g. IsInFront g x) h (cell_of_way planes way) p.1 q.1)),
        (λ q. (within.points x).1 ((is_part.points x).1 (q.0, All-head (λ g. IsInFront g x) h (cell_of_way planes way) q.1), All-tail (λ g. IsInFront g x) h (cell_of_way planes way) q.1)),
      );
      edges = edges_within winding part (cell_of_way planes way) all within
          (second_among (h ∷ []) (cell_of_way planes way ++ whole.edges) (cell_of_way planes way) (first_among (cell_of_way planes way) whole.edges))
          (edges_of_part part whole h all is_part (Contains-first h (cell_of_way planes way ++ whole.edges))
          (second_among (h ∷ cell_of_way planes way) whole.edges whole.edges (own_edges whole)));
    }
      where
        all : List Plane
        all = h ∷ (cell_of_way planes way ++ whole.edges)

    -- the pieces of its part in front of a node's plane are pieces of the polygon
    pub seen_through : (leaves : List LeafBelow) (pieces : List LeafPiece) → ArePieces planes part leaves pieces → ArePieces planes whole (map (seen_from n side) leaves) pieces
    seen_through leaves pieces no_pieces = no_pieces
    seen_through leaves pieces (piece {below = below} {winding = winding} within have) = piece (seen_part winding below.way within) (seen_through _ _ have)
    seen_through leaves pieces (nothing {below = below} never have) =
        nothing (λ x r inside. never x ((is_part.points x).1 (r, All-head (λ g. IsInFront g x) h (cell_of_way planes below.way) inside)) (All-tail (λ g. IsInFront g x) h (cell_of_way planes below.way) inside)) (seen_through _ _ have)

  -- and where nothing of it is in front there are none
  pub none_seen : (n : ℕ) (side : Bool) (whole : Winding) (leaves : List LeafBelow) → HasNoneInFront whole (turned side (plane_at planes n)) → ArePieces planes whole (map (seen_from n side) leaves) []
  none_seen n side whole [] none_ahead = no_pieces
  none_seen n side whole (below ∷ leaves) none_ahead =
      nothing (λ x r inside.
      let front = All-head (λ g. IsInFront g x) (turned side (plane_at planes n)) (cell_of_way planes below.way) inside in
      let not = none_ahead x r in
      absurd (omega (arith, linear)))
      (none_seen n side whole leaves none_ahead)

-- ---- the contacts at a node

pub touchings_append : (planes : List Plane) (first second : List Meeting) (touchings others : List Touching) → AreTouchings planes first touchings → AreTouchings planes second others → AreTouchings planes (first ++ second) (touchings ++ others)
touchings_append planes first second touchings others none more = more
touchings_append planes first second touchings others (touching is have) more = touching is (touchings_append planes _ second _ others have more)
touchings_append planes first second touchings others (apart never have) more = apart never (touchings_append planes _ second _ others have more)

module _ (planes : List Plane) (n plane : ℕ) (above : Way) (section : Winding) (is_section : IsSection (walled_cell planes above) (plane_at planes plane) section) where
  -- a point of the section that is in both leaves' cells is a contact
  contact_point : (front back : LeafBelow) (x : Point) → IsContact planes (meeting_at n plane above front back) x ↔ ((IsInRegion section x × IsInCell (cell_of_way planes front.way) x) × IsInCell (cell_of_way planes back.way) x)
  contact_point front back x = (
    (λ c. (((is_section.points x).1 (c.on, (walled_split planes above x).1 (c.in_cube, c.above)), c.in_front), c.behind)),
    (λ q.
        let s = (is_section.points x).0 q.0.0 in
        let w = (walled_split planes above x).0 s.1 in
        record { in_cube = w.0; on = s.0; above = w.1; in_front = q.0.1; behind = q.1 }),
  )

  module _ (front : LeafBelow) where
    -- the planes of the cell, and those below it on either side, are among the bounds of a contact
    abbrev on_sides : LeafBelow → List Plane
    on_sides back = cell_of_way planes front.way ++ cell_of_way planes back.way

    walled : (back : LeafBelow) → All (Contains (bounds_of_contact planes (meeting_at n plane above front back))) (walled_cell planes above)
    walled back =
        All-append (Contains (bounds_of_contact planes (meeting_at n plane above front back))) cube_walls (cell_of_way planes above)
        (first_among cube_walls (cell_of_way planes above ++ on_sides back))
        (second_among cube_walls (cell_of_way planes above ++ on_sides back) (cell_of_way planes above) (first_among (cell_of_way planes above) (on_sides back)))

    in_front : (back : LeafBelow) → All (Contains (bounds_of_contact planes (meeting_at n plane above front back))) (cell_of_way planes front.way)
    in_front back =
        second_among cube_walls (cell_of_way planes above ++ on_sides back) (cell_of_way planes front.way)
        (second_among (cell_of_way planes above) (on_sides back) (cell_of_way planes front.way) (first_among (cell_of_way planes front.way) (cell_of_way planes back.way)))

    behind : (back : LeafBelow) → All (Contains (bounds_of_contact planes (meeting_at n plane above front back))) (cell_of_way planes back.way)
    behind back =
        second_among cube_walls (cell_of_way planes above ++ on_sides back) (cell_of_way planes back.way)
        (second_among (cell_of_way planes above) (on_sides back) (cell_of_way planes back.way)
        (second_among (cell_of_way planes front.way) (cell_of_way planes back.way) (cell_of_way planes back.way) (All-contains_itself (cell_of_way planes back.way))))

    -- the front leaf has nothing of the section
    no_front : HasNoPiece planes section front.way → (backs : List LeafBelow) → AreTouchings planes (map (meeting_at n plane above front) backs) []
    no_front never [] = none
    no_front never (back ∷ backs) = apart (λ x c. let q = (contact_point front back x).0 c in never x q.0.0 q.0.1) (no_front never backs)

    -- or a piece of it, which is pushed down the back
    with_front : (winding : Winding) → IsPartWithin winding section (cell_of_way planes front.way) → (backs : List LeafBelow) (pieces : List LeafPiece) → ArePieces planes winding backs pieces → AreTouchings planes (map (meeting_at n plane above front) backs) (map (touching_at n front.leaf) pieces)
    with_front winding part backs pieces no_pieces = none
    with_front winding part backs pieces (piece {below = back} {winding = found} within have) = touching (record {
      node = refl;
      front = refl;
      back = refl;
      convex = within.convex;
      plane = within.plane ∙ part.plane ∙ is_section.plane;
      points = λ x. (
        (λ r. let q = (within.points x).0 r in (contact_point front back x).1 ((part.points x).0 q.0, q.1)),
        (λ c. let q = (contact_point front back x).0 c in (within.points x).1 ((part.points x).1 q.0, q.1)),
      );
      edges = edges_within found winding (cell_of_way planes back.way) (bounds_of_contact planes (meeting_at n plane above front back)) within (behind back)
          (edges_within winding section (cell_of_way planes front.way) (bounds_of_contact planes (meeting_at n plane above front back)) part (in_front back)
          (edges_among section (walled_cell planes above) (bounds_of_contact planes (meeting_at n plane above front back)) (walled back) is_section.edges));
    }) (with_front winding part _ _ have)
    with_front winding part backs pieces (nothing {below = back} never have) =
        apart (λ x c. let q = (contact_point front back x).0 c in never x ((part.points x).1 q.0) q.1) (with_front winding part _ _ have)

  -- all contacts at the node: of each leaf in front that has a piece of the section, what the leaves behind have of the piece
  pub touchings_at_node : (fronts backs : List LeafBelow) (pieces : List LeafPiece) (touchings : List Touching) → ArePieces planes section fronts pieces → ArePiecesOfEach planes n backs pieces touchings → AreTouchings planes (meetings_at n plane above fronts backs) touchings
  touchings_at_node [] backs pieces touchings no_pieces no_rows = none
  touchings_at_node (front ∷ fronts) backs pieces touchings (piece {winding = winding} part have) (row found rows) =
      subst (λ (ms : List Meeting). AreTouchings planes ms touchings) (sym (flat_map-cons (λ f. map (meeting_at n plane above f) backs) front fronts))
      (touchings_append planes (map (meeting_at n plane above front) backs) (meetings_at n plane above fronts backs) _ _ (with_front front winding part backs _ found) (touchings_at_node fronts backs _ _ have rows))
  touchings_at_node (front ∷ fronts) backs pieces touchings (nothing never have) rows =
      subst (λ (ms : List Meeting). AreTouchings planes ms touchings) (sym (flat_map-cons (λ f. map (meeting_at n plane above f) backs) front fronts))
      (touchings_append planes (map (meeting_at n plane above front) backs) (meetings_at n plane above fronts backs) [] touchings (no_front front never backs) (touchings_at_node fronts backs pieces touchings have rows))
