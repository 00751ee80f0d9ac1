-- Pushing a polygon down numbered nodes by a stack: what is due at a leaf and at a node.
use Rattle.std.proofs.Common.{◌≡◌, ℕ, ◌+◌, ◌<◌, Bool, true, false, Option, Some, None, List, [], ◌∷◌, ◌++◌, map, refl, sym, ap, ◌∙◌, subst, arith}
use Rattle.std.specs.Prelude.{slice_get}
use Rattle.std.specs.Option.{MatchOption}
use Rattle.qm_lists.specs.inner.Stack.{ComesTo}
use Rattle.qm_lists.proofs.Stacks.{comes_append}
use Rattle.qm_space.specs.Plane.{Plane}
use Rattle.qm_space.specs.Turned.{turned}
use Rattle.qm_space.specs.Book.{plane_at}
use Rattle.qm_convex.specs.Winding.{Winding, IsConvex}
use Rattle.qm_convex.specs.Sides.{HasNoneInFront}
use Rattle.qm_convex.specs.Cut.{IsPartInFront}
use Rattle.qm_partition.specs.declared.node.Node.{Node as NodeRecord}
use Rattle.qm_partition.specs.declared.node.Leaf.{Leaf as LeafRecord}
use Rattle.qm_partition.specs.declared.node.Child.{Child}
use Rattle.qm_partition.specs.declared.node.Child.TheVariants.{Node, Leaf}
use Rattle.qm_partition.specs.Partition.{Partition, leaf, node}
use Rattle.qm_partition.specs.Counting.{node_count}
use Rattle.qm_partition.specs.Numbering.{nodes_after, leaves_after, child_of, nodes_of}
use Rattle.qm_partition.specs.inner.PlacedPart.{IsPart}
use Rattle.qm_partition.proofs.PlacedParts.{top_node, whole_part, part_node, part_front, part_back}
use Rattle.qm_contacts.specs.Meeting.{seen_from, leaves_below}
use Rattle.qm_contacts.specs.inner.Pieces.{LeafPiece, ArePieces}
use Rattle.qm_contacts.specs.inner.Due.{StandsFor, DueBelow, ComesToPieces, half_due}
use Rattle.qm_contacts.proofs.Pieces.{pieces_append, piece_at_leaf, seen_through, none_seen}

pub root_stands : (whole : Partition) → StandsFor whole (child_of whole 0 0) whole 0 0
root_stands whole = record { is_part = whole_part whole; child_is = refl }

-- a child that is a leaf stands for one leaf
pub record IsLeafPart (part : Partition) (k j : ℕ) : Type 0 where
  pub found : LeafRecord
  pub part_is : part ≡ leaf found
  pub number_is : k ≡ j

leaf_by_part : (part : Partition) (n k j : ℕ) → Leaf j ≡ child_of part n k → IsLeafPart part k j
leaf_by_part (leaf found) n k j is = record { found = found; part_is = refl; number_is = cc }
leaf_by_part (node p front back) n k j is = absurd cc

pub leaf_part : (whole : Partition) (child : Child) (part : Partition) (n k j : ℕ) → StandsFor whole child part n k → child ≡ Leaf j → IsLeafPart part k j
leaf_part whole child part n k j stands is = leaf_by_part part n k j (sym is ∙ stands.child_is)

-- a child that is a node stands for that node, and its children for the two sides
pub record IsNodePart (whole part : Partition) (n k : ℕ) (here : NodeRecord) : Type 0 where
  pub front : Partition
  pub back : Partition
  pub part_is : part ≡ node here.plane front back
  pub front_stands : StandsFor whole here.front front (n + 1) k
  pub back_stands : StandsFor whole here.back back (nodes_after front (n + 1)) (leaves_after front k)

node_by_part : (whole part : Partition) (n k j : ℕ) (here : NodeRecord) → IsPart whole part n k → Node j ≡ child_of part n k → slice_get (nodes_of whole 0 0) j ≡ Some here → (j ≡ n) × IsNodePart whole part n k here
node_by_part whole (leaf found) n k j here is_part is at = absurd cc
node_by_part whole (node p front back) n k j here is_part is at =
    let same : j ≡ n = cc in
    let e : Some (top_node p front back n k) ≡ Some here = sym (part_node whole p front back n k is_part) ∙ ap (slice_get (nodes_of whole 0 0)) (sym same) ∙ at in
    let top : top_node p front back n k ≡ here = cc in (
      same,
      record {
        front = front;
        back = back;
        part_is = ap (λ (m : NodeRecord). node m.plane front back) top;
        front_stands = record { is_part = part_front whole p front back n k is_part; child_is = sym (ap (λ (m : NodeRecord). m.front) top) };
        back_stands = record { is_part = part_back whole p front back n k is_part; child_is = sym (ap (λ (m : NodeRecord). m.back) top) };
      },
    )

pub node_part : (whole : Partition) (child : Child) (part : Partition) (n k j : ℕ) (here : NodeRecord) → StandsFor whole child part n k → child ≡ Node j → slice_get (nodes_of whole 0 0) j ≡ Some here → (j ≡ n) × IsNodePart whole part n k here
node_part whole child part n k j here stands is at = node_by_part whole part n k j here stands.is_part (sym is ∙ stands.child_is) at

-- the number of a node is one of the tree's
pub node_within : (whole part : Partition) (n k j : ℕ) → StandsFor whole (Node j) part n k → j < node_count whole
node_within whole (leaf found) n k j stands = let is = stands.child_is in absurd cc
node_within whole (node p front back) n k j stands =
    let is = stands.child_is in
    let same : j ≡ n = cc in
    omega (arith, same, stands.is_part.nodes_in)

-- ---- the pieces of a polygon

-- at a leaf all of it is the piece
pub piece_due_at_leaf : (planes : List Plane) (entry : DueBelow) (j : ℕ) (rest : List LeafPiece) → IsConvex entry.due.winding → IsLeafPart entry.part entry.k j → ComesTo (ComesToPieces planes) [] rest → ComesToPieces planes entry (record { leaf = j; winding = entry.due.winding } ∷ [] ++ rest)
piece_due_at_leaf planes entry j rest convex is none =
    subst (λ (all : List LeafPiece). ComesToPieces planes entry (record { leaf = j; winding = entry.due.winding } ∷ all)) (sym none)
    (subst (λ (m : ℕ). ArePieces planes entry.due.winding (leaves_below entry.part entry.k) (record { leaf = m; winding = entry.due.winding } ∷ [])) is.number_is
    (subst (λ (p : Partition). ArePieces planes entry.due.winding (leaves_below p entry.k) (record { leaf = entry.k; winding = entry.due.winding } ∷ [])) (sym is.part_is)
    (piece_at_leaf planes entry.due.winding is.found entry.k convex)))

-- the pieces of one half
module _ (planes : List Plane) (p : ℕ) (side : Bool) (whole : Winding) (child : Child) (part : Partition) (n k : ℕ) where
  abbrev h : Plane
  h = turned side (plane_at planes p)

  by_half : (half : Option Winding) (own : List LeafPiece) → MatchOption half (HasNoneInFront whole h) (λ w. IsPartInFront w whole h) → ComesTo (ComesToPieces planes) (half_due half child part n k) own → ArePieces planes whole (map (seen_from p side) (leaves_below part k)) own
  by_half None own not comes = subst (λ (all : List LeafPiece). ArePieces planes whole (map (seen_from p side) (leaves_below part k)) all) (sym comes) (none_seen planes p side whole (leaves_below part k) not)
  by_half (Some w) own is_part (its, others, by, none, is) =
      subst (λ (all : List LeafPiece). ArePieces planes whole (map (seen_from p side) (leaves_below part k)) all) (sym (is ∙ ap (λ first. first ++ its) none))
      (seen_through planes p side w whole is_part (leaves_below part k) its by)

-- at a node its halves are due: that in front next, so that it stands on top
pub halves_due_at_node : (planes : List Plane) (whole : Partition) (entry : DueBelow) (here : NodeRecord) (front back : Option Winding) (rest : List LeafPiece) (is : IsNodePart whole entry.part entry.n entry.k here) → MatchOption front (HasNoneInFront entry.due.winding (plane_at planes here.plane)) (λ w. IsPartInFront w entry.due.winding (plane_at planes here.plane)) → MatchOption back (HasNoneInFront entry.due.winding (turned false (plane_at planes here.plane))) (λ w. IsPartInFront w entry.due.winding (turned false (plane_at planes here.plane))) → ComesTo (ComesToPieces planes) (half_due back here.back is.back (nodes_after is.front (entry.n + 1)) (leaves_after is.front entry.k) ++ half_due front here.front is.front (entry.n + 1) entry.k) rest → ComesToPieces planes entry rest
halves_due_at_node planes whole entry here front back rest is front_half back_half comes =
    let behind = half_due back here.back is.back (nodes_after is.front (entry.n + 1)) (leaves_after is.front entry.k) in
    let ahead = half_due front here.front is.front (entry.n + 1) entry.k in
    let parts = comes_append (ComesToPieces planes) behind ahead rest comes in
    let in_front = by_half planes here.plane true entry.due.winding here.front is.front (entry.n + 1) entry.k front parts.0 front_half parts.2 in
    let in_back = by_half planes here.plane false entry.due.winding here.back is.back (nodes_after is.front (entry.n + 1)) (leaves_after is.front entry.k) back parts.1 back_half parts.3 in
    subst (λ (part : Partition). ArePieces planes entry.due.winding (leaves_below part entry.k) rest) (sym is.part_is)
    (subst (λ (all : List LeafPiece). ArePieces planes entry.due.winding (leaves_below (node here.plane is.front is.back) entry.k) all) (sym parts.4)
    (pieces_append planes entry.due.winding (map (seen_from here.plane true) (leaves_below is.front entry.k)) (map (seen_from here.plane false) (leaves_below is.back (leaves_after is.front entry.k))) parts.0 parts.1 in_front in_back))
