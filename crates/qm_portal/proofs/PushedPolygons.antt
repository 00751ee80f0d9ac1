-- A polygon that is due at a child: what is left of it there, and how much there is to do.
use Rattle.std.proofs.Common.{◌≡◌, ◌<◌, ℕ, ◌+◌, ◌^◌, false, Option, Some, None, List, [], ◌∷◌, ◌++◌, map, refl, sym, ap, ◌∙◌, subst, arith}
use Rattle.std.specs.Prelude.{slice_get, All}
use Rattle.std.specs.Option.{MatchOption}
use Rattle.std.proofs.lemmas.List.{map-append, append-nil, append_assoc}
use Rattle.std.proofs.lemmas.List.Elements.{All-nil, All-cons, All-pop, All-append}
use Rattle.std.proofs.lemmas.List.Sums.{sum_by-append}
use Rattle.qm_numbers.proofs.Powers.{some_power, two_powers}
use Rattle.qm_lists.specs.inner.Stack.{ComesTo, IsLeft, Leaves}
use Rattle.qm_lists.proofs.Stacks.{taken, last_of_map}
use Rattle.qm_lists.proofs.KeptStacks.{leaves_itself, under_way_first, under_way_goes_on, under_way_last}
use Rattle.qm_space.specs.Plane.{Plane, flipped}
use Rattle.qm_space.specs.Turned.{turned}
use Rattle.qm_space.specs.Book.{plane_at}
use Rattle.qm_space.proofs.Books.{plane_at_from}
use Rattle.qm_convex.specs.Winding.{Winding, IsConvex}
use Rattle.qm_convex.specs.Sides.{HasNoneInFront, IsWhollyInFront, LiesIn}
use Rattle.qm_wind.proofs.Clips.{split_front, split_back, split_on}
use Rattle.qm_convex.specs.Cut.{IsPartInFront}
use Rattle.qm_partition.specs.declared.node.Node.{Node as NodeRecord}
use Rattle.qm_partition.specs.declared.node.Child.{Child}
use Rattle.qm_partition.specs.declared.node.Child.TheVariants.{Node, Leaf}
use Rattle.qm_partition.specs.Partition.{Partition}
use Rattle.qm_partition.specs.Tree.{Tree}
use Rattle.qm_partition.specs.Counting.{node_count}
use Rattle.qm_partition.specs.Numbering.{nodes_of, nodes_after, leaves_after}
use Rattle.qm_partition.specs.inner.PlacedPart.{nodes_from}
use Rattle.qm_partition.proofs.PlacedParts.{sides_come_later}
use Rattle.qm_contacts.specs.inner.Pieces.{LeafPiece}
use Rattle.qm_contacts.specs.inner.Due.{StandsFor, DuePolygon, DueBelow, due_of, ComesToPieces, half_due}
use Rattle.qm_contacts.proofs.PushedDown.{IsNodePart, node_part, leaf_part, node_within, piece_due_at_leaf, halves_due_at_node}
use Rattle.qm_wind.specs.Split.{IsSplit}
use Rattle.qm_wind.specs.declared.halves.Halves.{Halves}
use Rattle.qm_portal.specs.inner.Pushes.{IsChildOf, HasPieces, IsDueBelow, polygon_at, weight_at, polygon_weight, LeavesPolygons, IsPushed, MayBeDue, IsPushing, rest_at, GoesDown, half_at}

-- a node that can be due is one of the tree
pub due_within : (tree : Tree) (winding : Winding) (n : ℕ) → MayBeDue tree (polygon_at winding (Node n)) → n < node_count tree.shape
due_within tree winding n (entry, same, known) =
    node_within tree.shape entry.part entry.n entry.k n (subst (λ (child : Child). StandsFor tree.shape child entry.part entry.n entry.k) (ap (λ (d : DuePolygon). d.child) same) known.stands)

-- a half that is due
kept_half : (half : Option Winding) (child : Child) (part : Partition) (n k : ℕ) → map due_of (half_due half child part n k) ≡ half_at half child
kept_half None child part n k = refl
kept_half (Some winding) child part n k = refl

known_half : (tree : Tree) (half : Option Winding) (child : Child) (part : Partition) (n k : ℕ) (whole : Winding) (g : Plane) → StandsFor tree.shape child part n k → MatchOption half (HasNoneInFront whole g) (λ w. IsPartInFront w whole g) → All (IsDueBelow tree) (half_due half child part n k)
known_half tree None child part n k whole g stands is = All-nil (IsDueBelow tree)
known_half tree (Some winding) child part n k whole g stands is = All-cons (IsDueBelow tree) _ [] (record { stands = stands; convex = is.convex }) (All-nil (IsDueBelow tree))

-- at a node both halves are left
module _ (tree : Tree) (n : ℕ) (here : NodeRecord) (g : Plane) (at : slice_get (nodes_of tree.shape 0 0) n ≡ Some here) (plane_is : slice_get tree.planes here.plane ≡ Some g) where
  same_plane : plane_at tree.planes here.plane ≡ g
  same_plane = plane_at_from tree.planes here.plane g plane_is

  halves_left : (winding : Winding) (halves : Halves) → IsSplit halves winding g → LeavesPolygons tree (polygon_at winding (Node n)) (half_at halves.back here.back ++ half_at halves.front here.front) []
  halves_left winding halves split entry same known = left
    where
      child_is : entry.due.child ≡ Node n
      child_is = ap (λ (d : DuePolygon). d.child) same

      winding_is : winding ≡ entry.due.winding
      winding_is = sym (ap (λ (d : DuePolygon). d.winding) same)

      is : IsNodePart tree.shape entry.part entry.n entry.k here
      is = (node_part tree.shape entry.due.child entry.part entry.n entry.k n here known.stands child_is at).1

      front_half : MatchOption halves.front (HasNoneInFront entry.due.winding (plane_at tree.planes here.plane)) (λ w. IsPartInFront w entry.due.winding (plane_at tree.planes here.plane))
      front_half = subst (λ (v : Winding). MatchOption halves.front (HasNoneInFront v (plane_at tree.planes here.plane)) (λ w. IsPartInFront w v (plane_at tree.planes here.plane))) winding_is
          (subst (λ (h : Plane). MatchOption halves.front (HasNoneInFront winding h) (λ w. IsPartInFront w winding h)) (sym same_plane) split.front)

      back_half : MatchOption halves.back (HasNoneInFront entry.due.winding (turned false (plane_at tree.planes here.plane))) (λ w. IsPartInFront w entry.due.winding (turned false (plane_at tree.planes here.plane)))
      back_half = subst (λ (v : Winding). MatchOption halves.back (HasNoneInFront v (turned false (plane_at tree.planes here.plane))) (λ w. IsPartInFront w v (turned false (plane_at tree.planes here.plane)))) winding_is
          (subst (λ (h : Plane). MatchOption halves.back (HasNoneInFront winding (turned false h)) (λ w. IsPartInFront w winding (turned false h))) (sym same_plane) split.back)

      behind : List DueBelow
      behind = half_due halves.back here.back is.back (nodes_after is.front (entry.n + 1)) (leaves_after is.front entry.k)

      ahead : List DueBelow
      ahead = half_due halves.front here.front is.front (entry.n + 1) entry.k

      left : IsLeft due_of (IsDueBelow tree) (ComesToPieces tree.planes) entry (half_at halves.back here.back ++ half_at halves.front here.front) []
      left = record {
        entries = behind ++ ahead;
        kept_is = map-append due_of behind ahead ∙ (λ i. kept_half halves.back here.back is.back (nodes_after is.front (entry.n + 1)) (leaves_after is.front entry.k) i ++ kept_half halves.front here.front is.front (entry.n + 1) entry.k i);
        known = All-append (IsDueBelow tree) behind ahead
            (known_half tree halves.back here.back is.back (nodes_after is.front (entry.n + 1)) (leaves_after is.front entry.k) entry.due.winding (turned false (plane_at tree.planes here.plane)) is.back_stands back_half)
            (known_half tree halves.front here.front is.front (entry.n + 1) entry.k entry.due.winding (plane_at tree.planes here.plane) is.front_stands front_half);
        rest = λ all comes. halves_due_at_node tree.planes tree.shape entry here halves.front halves.back all is front_half back_half comes;
      }

-- at a leaf the polygon is done
pub done_at_leaf : (tree : Tree) (winding : Winding) (j : ℕ) → LeavesPolygons tree (polygon_at winding (Leaf j)) [] (record { leaf = j; winding = winding } ∷ [])
done_at_leaf tree winding j entry same known = record {
  entries = [];
  kept_is = refl;
  known = All-nil (IsDueBelow tree);
  rest = λ all comes.
      let winding_is = ap (λ (d : DuePolygon). d.winding) same in
      let part = leaf_part tree.shape entry.due.child entry.part entry.n entry.k j known.stands (ap (λ (d : DuePolygon). d.child) same) in
      subst (λ (w : Winding). ComesToPieces tree.planes entry (record { leaf = j; winding = w } ∷ [] ++ all)) winding_is (piece_due_at_leaf tree.planes entry j all known.convex part comes);
}

-- ---- stacks

-- where what one leaves ends in another, that one may be taken off in its turn
pub leaves_then_last : {Entry Kept Item : Type 0} (kept_of : Entry → Kept) (IsKnown : Entry → Type 0) (By : Entry → List Item → Type 0) (first next : Kept) (others more : List Kept) (own : List Item) → Leaves kept_of IsKnown By first (others ++ next ∷ []) [] → Leaves kept_of IsKnown By next more own → Leaves kept_of IsKnown By first (others ++ more) own
leaves_then_last {Entry} {Kept} {Item} kept_of IsKnown By first next others more own one then entry same known = from (one entry same known)
  where
    from : IsLeft kept_of IsKnown By entry (others ++ next ∷ []) [] → IsLeft kept_of IsKnown By entry (others ++ more) own
    from left =
        let last = last_of_map kept_of left.entries others next left.kept_is in
        let all_known = All-pop IsKnown left.entries last.0 (Some last.1) last.2 left.known in
        let its = then last.1 last.4 all_known.1 in
        record {
          entries = last.0 ++ its.entries;
          kept_is = map-append kept_of last.0 its.entries ∙ (λ i. last.3 i ++ its.kept_is i);
          known = All-append IsKnown last.0 its.entries all_known.0 its.known;
          rest = taken By (By entry) last.0 its.entries last.1 [] own (λ rest comes. left.rest rest (subst (λ (entries : List Entry). ComesTo By entries rest) (sym last.2) comes)) its.rest;
        }

-- ---- by what code answers

module _ (tree : Tree) (n : ℕ) (here : NodeRecord) (g : Plane) (at : slice_get (nodes_of tree.shape 0 0) n ≡ Some here) (plane_is : slice_get tree.planes here.plane ≡ Some g) where
  -- the children weigh less than the node, also with one more
  children_lighter : (3 ^ nodes_from (node_count tree.shape) here.front) + (3 ^ nodes_from (node_count tree.shape) here.back) < weight_at tree (Node n)
  children_lighter = let later = sides_come_later tree.shape n here at in two_powers _ _ _ later.0 later.1

  pub front_lighter : weight_at tree here.front < weight_at tree (Node n)
  front_lighter = let l = children_lighter in omega (arith, l)

  pub back_lighter : weight_at tree here.back < weight_at tree (Node n)
  back_lighter = let l = children_lighter in omega (arith, l)

  pub none_lighter : 1 < weight_at tree (Node n)
  none_lighter =
      let l = children_lighter in
      omega (arith, l, some_power (nodes_from (node_count tree.shape) here.front), some_power (nodes_from (node_count tree.shape) here.back))

  module _ (old new : Winding) (convex : IsConvex old) (due : List DuePolygon) where
    -- all of it goes one way
    pub goes_front : new ≡ old → IsWhollyInFront old g → GoesDown tree old (Node n) new (Some here.front) due due
    goes_front same ahead = record {
      others = [];
      stack_is = sym (append-nil due);
      leaves = subst (λ (w : Winding). LeavesPolygons tree (polygon_at old (Node n)) (polygon_at w here.front ∷ []) []) (sym same)
          (halves_left tree n here g at plane_is old (record { front = Some old; back = None }) (split_front old g convex ahead));
      lighter = let l = front_lighter in omega (arith, l);
    }

    pub goes_back : new ≡ old → IsWhollyInFront old (flipped g) → GoesDown tree old (Node n) new (Some here.back) due due
    goes_back same behind = record {
      others = [];
      stack_is = sym (append-nil due);
      leaves = subst (λ (w : Winding). LeavesPolygons tree (polygon_at old (Node n)) (polygon_at w here.back ∷ []) []) (sym same)
          (halves_left tree n here g at plane_is old (record { front = None; back = Some old }) (split_back old g convex behind));
      lighter = let l = back_lighter in omega (arith, l);
    }

    -- or nothing is left of it
    pub goes_nowhere : LiesIn old g → GoesDown tree old (Node n) new None due due
    goes_nowhere lies = record {
      others = [];
      stack_is = sym (append-nil due);
      leaves = halves_left tree n here g at plane_is old (record { front = None; back = None }) (split_on old g lies);
      lighter = let l = none_lighter in omega (arith, l);
    }

    -- or it is cut
    pub goes_both : (behind : Winding) (new_due : List DuePolygon) → IsPartInFront new old g → IsPartInFront behind old (flipped g) → new_due ≡ due ++ polygon_at behind here.back ∷ [] → GoesDown tree old (Node n) new (Some here.front) due new_due
    goes_both behind new_due front back is = record {
      others = polygon_at behind here.back ∷ [];
      stack_is = is;
      leaves = halves_left tree n here g at plane_is old (record { front = Some new; back = Some behind }) (record { front = front; back = back });
      lighter = let l = children_lighter in omega (arith, l);
    }

-- ---- on the way down

pub stays : (tree : Tree) (winding : Winding) (child : Child) (due : List DuePolygon) → GoesDown tree winding child winding (Some child) due due
stays tree winding child due = record {
  others = [];
  stack_is = sym (append-nil due);
  leaves = leaves_itself due_of (IsDueBelow tree) (ComesToPieces tree.planes) (polygon_at winding child);
  lighter = omega arith;
}

module _ (tree : Tree) (old middle : Winding) (from at : Child) (due middle_due : List DuePolygon) (so_far : GoesDown tree old from middle (Some at) due middle_due) where
  -- one step more
  pub goes_on : (new : Winding) (to : Option Child) (new_due : List DuePolygon) → GoesDown tree middle at new to middle_due new_due → GoesDown tree old from new to due new_due
  goes_on new to new_due step = record {
    others = so_far.others ++ step.others;
    stack_is = step.stack_is ∙ ap (λ ds. ds ++ step.others) so_far.stack_is ∙ append_assoc due so_far.others step.others;
    leaves = subst (λ (ds : List DuePolygon). LeavesPolygons tree (polygon_at old from) ds []) (sym (append_assoc so_far.others step.others (rest_at to new)))
        (leaves_then_last due_of (IsDueBelow tree) (ComesToPieces tree.planes) (polygon_at old from) (polygon_at middle at) so_far.others (step.others ++ rest_at to new) [] so_far.leaves step.leaves);
    lighter = omega (arith, sum_by-append (polygon_weight tree) so_far.others step.others, so_far.lighter, step.lighter);
  }

  -- what can be due can be due further down
  pub due_further_down : MayBeDue tree (polygon_at old from) → MayBeDue tree (polygon_at middle at)
  due_further_down (entry, same, known) =
      let left = so_far.leaves entry same known in
      let last = last_of_map due_of left.entries so_far.others (polygon_at middle at) left.kept_is in
      (last.1, last.4, (All-pop (IsDueBelow tree) left.entries last.0 (Some last.1) last.2 left.known).1)

pub convex_of_due : (tree : Tree) (winding : Winding) (child : Child) → MayBeDue tree (polygon_at winding child) → IsConvex winding
convex_of_due tree winding child (entry, same, known) = subst IsConvex (ap (λ (d : DuePolygon). d.winding) same) known.convex

-- ---- where it came to

module _ (tree : Tree) (old new : Winding) (from : Child) (due new_due : List DuePolygon) where
  -- nothing is left of the polygon
  pub pushed_nowhere : GoesDown tree old from new None due new_due → IsPushed tree (polygon_at old from) due new_due [] []
  pushed_nowhere down = record {
    others = down.others;
    own = [];
    stack_is = down.stack_is;
    done_is = refl;
    leaves = subst (λ (ds : List DuePolygon). LeavesPolygons tree (polygon_at old from) ds []) (append-nil down.others) down.leaves;
    lighter = omega (arith, down.lighter);
  }

  -- what is left of it is in a leaf
  pub pushed_to_leaf : (j : ℕ) → GoesDown tree old from new (Some (Leaf j)) due new_due → IsPushed tree (polygon_at old from) due new_due [] (record { leaf = j; winding = new } ∷ [])
  pushed_to_leaf j down = record {
    others = down.others;
    own = record { leaf = j; winding = new } ∷ [];
    stack_is = down.stack_is;
    done_is = refl;
    leaves = subst (λ (ds : List DuePolygon). LeavesPolygons tree (polygon_at old from) ds (record { leaf = j; winding = new } ∷ [])) (append-nil down.others)
        (leaves_then_last due_of (IsDueBelow tree) (ComesToPieces tree.planes) (polygon_at old from) (polygon_at new (Leaf j)) down.others [] (record { leaf = j; winding = new } ∷ []) down.leaves (done_at_leaf tree new j));
    lighter = omega (arith, down.lighter, some_power (nodes_from (node_count tree.shape) (Leaf j)));
  }

-- pieces that are found after others
pub pushed_after : (tree : Tree) (polygon : DuePolygon) (due new_due : List DuePolygon) (own pieces new : List LeafPiece) → IsPushed tree polygon due new_due [] own → new ≡ pieces ++ own → IsPushed tree polygon due new_due pieces new
pushed_after tree polygon due new_due own pieces new is new_is = record {
  others = is.others;
  own = is.own;
  stack_is = is.stack_is;
  done_is = new_is ∙ ap (λ ps. pieces ++ ps) is.done_is;
  leaves = is.leaves;
  lighter = is.lighter;
}

-- ---- all of it

pub child_is_due : (tree : Tree) (polygon : DuePolygon) → IsChildOf tree polygon.child → IsConvex polygon.winding → MayBeDue tree polygon
child_is_due tree polygon is convex = (record { due = polygon; part = is.part; n = is.n; k = is.k }, refl, record { stands = is.stands; convex = convex })

-- the first step
pub push_begins : (tree : Tree) (polygon : DuePolygon) (due : List DuePolygon) (pieces : List LeafPiece) → IsPushed tree polygon [] due [] pieces → IsPushing tree polygon due pieces
push_begins tree polygon due pieces first =
    under_way_goes_on due_of (IsDueBelow tree) (ComesToPieces tree.planes) polygon (polygon ∷ []) [] polygon [] refl (polygon_weight tree) due pieces first
    (under_way_first due_of (IsDueBelow tree) (ComesToPieces tree.planes) polygon)

pub push_ends : (tree : Tree) (polygon : DuePolygon) (pieces : List LeafPiece) → IsConvex polygon.winding → IsPushing tree polygon [] pieces → HasPieces tree polygon.child polygon.winding pieces
push_ends tree polygon pieces convex under part n k stands =
    under_way_last due_of (IsDueBelow tree) (ComesToPieces tree.planes) polygon pieces under (record { due = polygon; part = part; n = n; k = k }) refl (record { stands = stands; convex = convex })
