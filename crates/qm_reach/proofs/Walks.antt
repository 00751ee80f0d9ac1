-- A body goes down a tree by a list of those that are due: what is found at a leaf, and what is due at a node.
use Rattle.std.proofs.Common.{◌≡◌, ◌<◌, ◌≤◌, ℕ, ◌+◌, ◌^◌, Bool, true, false, Option, Some, None, List, [], ◌∷◌, ◌++◌, All, map, refl, sym, ap, ◌∙◌, subst, arith}
use Rattle.std.specs.Prelude.{slice_get, sum_by}
use Rattle.std.proofs.lemmas.List.{map-append, append-nil, append_assoc}
use Rattle.std.proofs.lemmas.List.Elements.{All-nil, All-cons, All-append}
use Rattle.std.proofs.lemmas.List.Sums.{sum_by-append}
use Rattle.qm_numbers.proofs.Powers.{some_power, two_powers}
use Rattle.qm_lists.specs.inner.Stack.{ComesTo, IsLeft}
use Rattle.qm_lists.proofs.Stacks.{comes_append}
use Rattle.qm_lists.proofs.KeptStacks.{under_way_first, under_way_last}
use Rattle.qm_space.specs.Plane.{Plane, flipped}
use Rattle.qm_space.specs.Turned.{turned}
use Rattle.qm_space.specs.Cell.{HasPoint}
use Rattle.qm_space.specs.Book.{plane_at}
use Rattle.qm_space.proofs.Books.{plane_at_from}
use Rattle.qm_convex.specs.inner.Facets.{Facet}
use Rattle.qm_partition.specs.declared.node.Node.{Node as NodeRecord}
use Rattle.qm_partition.specs.declared.node.Child.{Child}
use Rattle.qm_partition.specs.declared.node.Child.TheVariants.{Node, Leaf}
use Rattle.qm_partition.specs.Partition.{Partition, node}
use Rattle.qm_partition.specs.Tree.{Tree}
use Rattle.qm_partition.specs.Counting.{node_count}
use Rattle.qm_partition.specs.Numbering.{nodes_of, nodes_after, leaves_after, child_of}
use Rattle.qm_partition.specs.inner.PlacedPart.{nodes_from}
use Rattle.qm_partition.proofs.PlacedParts.{sides_come_later}
use Rattle.qm_contacts.specs.Meeting.{seen_from, leaves_below}
use Rattle.qm_contacts.specs.inner.Due.{StandsFor}
use Rattle.qm_contacts.proofs.PushedDown.{IsNodePart, IsLeafPart, node_part, leaf_part, node_within, root_stands}
use Rattle.qm_facets.specs.Body.{IsBody, IsBodyOrNone, IsSomeBody, with_plane}
use Rattle.qm_reach.specs.ReachedLeaves.{AreReached}
use Rattle.qm_reach.specs.inner.DueBodies.{DueBody, body_at, half_at_child, BodyBelow, due_body_of, IsDueBody, ComesToLeaves, body_weight, LeavesBodies, IsWalkedOn, MayBeDueBody, IsWalking}
use Rattle.qm_reach.proofs.ReachedBelow.{reached_append, reached_at_leaf, reached_through, none_reached}

-- ---- at a leaf

leaf_found : (planes : List Plane) (entry : BodyBelow) (j : ℕ) (rest : List ℕ) → HasPoint entry.cell → IsLeafPart entry.part entry.k j → ComesTo (ComesToLeaves planes) [] rest → ComesToLeaves planes entry (j ∷ [] ++ rest)
leaf_found planes entry j rest some is none =
    subst (λ (all : List ℕ). ComesToLeaves planes entry (j ∷ all)) (sym none)
    (subst (λ (m : ℕ). AreReached planes entry.cell (leaves_below entry.part entry.k) (m ∷ [])) is.number_is
    (subst (λ (p : Partition). AreReached planes entry.cell (leaves_below p entry.k) (entry.k ∷ [])) (sym is.part_is)
    (reached_at_leaf planes entry.cell is.found entry.k some)))

done_at_leaf : (tree : Tree) (facets : List Facet) (j : ℕ) → LeavesBodies tree (body_at facets (Leaf j)) [] (j ∷ [])
done_at_leaf tree facets j entry same known = record {
  entries = [];
  kept_is = refl;
  known = All-nil (IsDueBody tree);
  rest = λ all comes.
      let part = leaf_part tree.shape entry.due.child entry.part entry.n entry.k j known.stands (ap (λ (d : DueBody). d.child) same) in
      leaf_found tree.planes entry j all known.body.has_point part comes;
}

pub walked_at_leaf : (tree : Tree) (facets : List Facet) (j : ℕ) (due : List DueBody) (old new : List ℕ) → new ≡ old ++ j ∷ [] → IsWalkedOn tree (body_at facets (Leaf j)) due due old new
walked_at_leaf tree facets j due old new is = record {
  others = [];
  own = j ∷ [];
  stack_is = sym (append-nil due);
  done_is = is;
  leaves = done_at_leaf tree facets j;
  lighter = some_power (nodes_from (node_count tree.shape) (Leaf j));
}

-- ---- at a node

-- a half that is due, of the cell with the node's plane
abbrev half_below : Option (List Facet) → List Plane → Child → Partition → ℕ → ℕ → List BodyBelow
half_below None cell child part n k = []
half_below (Some facets) cell child part n k = record { due = body_at facets child; cell = cell; part = part; n = n; k = k } ∷ []

kept_half : (half : Option (List Facet)) (cell : List Plane) (child : Child) (part : Partition) (n k : ℕ) → map due_body_of (half_below half cell child part n k) ≡ half_at_child half child
kept_half None cell child part n k = refl
kept_half (Some facets) cell child part n k = refl

known_half : (tree : Tree) (half : Option (List Facet)) (cell : List Plane) (child : Child) (part : Partition) (n k : ℕ) → StandsFor tree.shape child part n k → IsBodyOrNone cell half → All (IsDueBody tree) (half_below half cell child part n k)
known_half tree None cell child part n k stands is = All-nil (IsDueBody tree)
known_half tree (Some facets) cell child part n k stands is = All-cons (IsDueBody tree) _ [] (record { stands = stands; body = is }) (All-nil (IsDueBody tree))

-- what the half on one side reaches
module _ (planes : List Plane) (cell : List Plane) (p : ℕ) (side : Bool) (child : Child) (part : Partition) (n k : ℕ) where
  by_half : (half : Option (List Facet)) (own : List ℕ) → IsBodyOrNone (with_plane cell (turned side (plane_at planes p))) half →
      ComesTo (ComesToLeaves planes) (half_below half (with_plane cell (turned side (plane_at planes p))) child part n k) own → AreReached planes cell (map (seen_from p side) (leaves_below part k)) own
  by_half None own never comes =
      subst (λ (all : List ℕ). AreReached planes cell (map (seen_from p side) (leaves_below part k)) all) (sym comes) (none_reached planes cell p side (leaves_below part k) never)
  by_half (Some facets) own is (its, others, by, none, same) =
      subst (λ (all : List ℕ). AreReached planes cell (map (seen_from p side) (leaves_below part k)) all) (sym (same ∙ ap (λ (first : List ℕ). first ++ its) none))
      (reached_through planes cell p side (leaves_below part k) its by)

module _ (tree : Tree) (n : ℕ) (here : NodeRecord) (g : Plane) (at : slice_get (nodes_of tree.shape 0 0) n ≡ Some here) (plane_is : slice_get tree.planes here.plane ≡ Some g) where
  same_plane : g ≡ plane_at tree.planes here.plane
  same_plane = sym (plane_at_from tree.planes here.plane g plane_is)

  module _ (facets : List Facet) (front back : Option (List Facet)) (in_front : (cell : List Plane) → IsBody cell facets → IsBodyOrNone (with_plane cell g) front) (behind : (cell : List Plane) → IsBody cell facets → IsBodyOrNone (with_plane cell (flipped g)) back) where
    halves_left : LeavesBodies tree (body_at facets (Node n)) (half_at_child back here.back ++ half_at_child front here.front) []
    halves_left entry same known = left
      where
        its : IsBody entry.cell facets
        its = subst (IsBody entry.cell) (ap (λ (d : DueBody). d.facets) same) known.body

        is : IsNodePart tree.shape entry.part entry.n entry.k here
        is = (node_part tree.shape entry.due.child entry.part entry.n entry.k n here known.stands (ap (λ (d : DueBody). d.child) same) at).1

        front_half : IsBodyOrNone (with_plane entry.cell (turned true (plane_at tree.planes here.plane))) front
        front_half = subst (λ (h : Plane). IsBodyOrNone (with_plane entry.cell h) front) same_plane (in_front entry.cell its)

        back_half : IsBodyOrNone (with_plane entry.cell (turned false (plane_at tree.planes here.plane))) back
        back_half = subst (λ (h : Plane). IsBodyOrNone (with_plane entry.cell (flipped h)) back) same_plane (behind entry.cell its)

        ahead_due : List BodyBelow
        ahead_due = half_below front (with_plane entry.cell (turned true (plane_at tree.planes here.plane))) here.front is.front (entry.n + 1) entry.k

        behind_due : List BodyBelow
        behind_due = half_below back (with_plane entry.cell (turned false (plane_at tree.planes here.plane))) here.back is.back (nodes_after is.front (entry.n + 1)) (leaves_after is.front entry.k)

        comes : (all : List ℕ) → ComesTo (ComesToLeaves tree.planes) (behind_due ++ ahead_due) all → ComesToLeaves tree.planes entry all
        comes all due =
            let parts = comes_append (ComesToLeaves tree.planes) behind_due ahead_due all due in
            let first = by_half tree.planes entry.cell here.plane true here.front is.front (entry.n + 1) entry.k front parts.0 front_half parts.2 in
            let second = by_half tree.planes entry.cell here.plane false here.back is.back (nodes_after is.front (entry.n + 1)) (leaves_after is.front entry.k) back parts.1 back_half parts.3 in
            subst (λ (part : Partition). AreReached tree.planes entry.cell (leaves_below part entry.k) all) (sym is.part_is)
            (subst (λ (found : List ℕ). AreReached tree.planes entry.cell (leaves_below (node here.plane is.front is.back) entry.k) found) (sym parts.4)
            (reached_append tree.planes entry.cell (map (seen_from here.plane true) (leaves_below is.front entry.k)) (map (seen_from here.plane false) (leaves_below is.back (leaves_after is.front entry.k))) parts.0 parts.1 first second))

        left : IsLeft due_body_of (IsDueBody tree) (ComesToLeaves tree.planes) entry (half_at_child back here.back ++ half_at_child front here.front) []
        left = record {
          entries = behind_due ++ ahead_due;
          kept_is = map-append due_body_of behind_due ahead_due
              ∙ (λ i. kept_half back (with_plane entry.cell (turned false (plane_at tree.planes here.plane))) here.back is.back (nodes_after is.front (entry.n + 1)) (leaves_after is.front entry.k) i ++ kept_half front (with_plane entry.cell (turned true (plane_at tree.planes here.plane))) here.front is.front (entry.n + 1) entry.k i);
          known = All-append (IsDueBody tree) behind_due ahead_due
              (known_half tree back (with_plane entry.cell (turned false (plane_at tree.planes here.plane))) here.back is.back (nodes_after is.front (entry.n + 1)) (leaves_after is.front entry.k) is.back_stands back_half)
              (known_half tree front (with_plane entry.cell (turned true (plane_at tree.planes here.plane))) here.front is.front (entry.n + 1) entry.k is.front_stands front_half);
          rest = comes;
        }

    half_weight : (half : Option (List Facet)) (child : Child) → sum_by (body_weight tree) (half_at_child half child) ≤ 3 ^ nodes_from (node_count tree.shape) child
    half_weight None child = omega arith
    half_weight (Some its) child = omega arith

    lighter : sum_by (body_weight tree) (half_at_child back here.back ++ half_at_child front here.front) < body_weight tree (body_at facets (Node n))
    lighter =
        let later = sides_come_later tree.shape n here at in
        omega (arith, sum_by-append (body_weight tree) (half_at_child back here.back) (half_at_child front here.front), half_weight back here.back, half_weight front here.front, two_powers _ _ _ later.0 later.1)

    pub walked_at_node : (old middle new : List DueBody) (found : List ℕ) → middle ≡ old ++ half_at_child back here.back → new ≡ middle ++ half_at_child front here.front → IsWalkedOn tree (body_at facets (Node n)) old new found found
    walked_at_node old middle new found back_is front_is = record {
      others = half_at_child back here.back ++ half_at_child front here.front;
      own = [];
      stack_is = front_is ∙ ap (λ (ds : List DueBody). ds ++ half_at_child front here.front) back_is ∙ append_assoc old (half_at_child back here.back) (half_at_child front here.front);
      done_is = sym (append-nil found);
      leaves = halves_left;
      lighter = lighter;
    }

-- a node that can be due is one of the tree
pub due_node_within : (tree : Tree) (facets : List Facet) (n : ℕ) → MayBeDueBody tree (body_at facets (Node n)) → n < node_count tree.shape
due_node_within tree facets n (entry, same, known) =
    node_within tree.shape entry.part entry.n entry.k n (subst (λ (child : Child). StandsFor tree.shape child entry.part entry.n entry.k) (ap (λ (d : DueBody). d.child) same) known.stands)

-- ---- all of it

abbrev at_root : Tree → List Facet → DueBody
at_root tree facets = body_at facets (child_of tree.shape 0 0)

pub root_is_due : (tree : Tree) (facets : List Facet) → IsSomeBody facets → MayBeDueBody tree (body_at facets (child_of tree.shape 0 0))
root_is_due tree facets (cell, body) = (record { due = at_root tree facets; cell = cell; part = tree.shape; n = 0; k = 0 }, refl, record { stands = root_stands tree.shape; body = body })

pub walk_begins : (tree : Tree) (due : DueBody) → IsWalking tree due (due ∷ []) []
walk_begins tree due = under_way_first due_body_of (IsDueBody tree) (ComesToLeaves tree.planes) due

pub walk_ends : (tree : Tree) (facets : List Facet) (found : List ℕ) → IsWalking tree (body_at facets (child_of tree.shape 0 0)) [] found → (cell : List Plane) → IsBody cell facets → AreReached tree.planes cell (leaves_below tree.shape 0) found
walk_ends tree facets found under cell body =
    under_way_last due_body_of (IsDueBody tree) (ComesToLeaves tree.planes) (at_root tree facets) found under (record { due = at_root tree facets; cell = cell; part = tree.shape; n = 0; k = 0 }) refl
    (record { stands = root_stands tree.shape; body = body })
