-- Going through all cells of numbered nodes by a stack: what is due at a leaf and at a node, and that all contacts are found.
use Rattle.std.proofs.Common.{◌≡◌, ℕ, zero, suc, ◌+◌, ◌<◌, Bool, true, false, List, [], ◌∷◌, ◌++◌, length, Some, sym, ap, ◌∙◌, subst, arith, ◌↔◌}
use Rattle.std.specs.Prelude.{slice_get}
use Rattle.std.proofs.lemmas.List.{append-nil, length-append}
use Rattle.std.proofs.lemmas.Option.{slice_get_within}
use Rattle.qm_lists.specs.WorkList.{IsIn}
use Rattle.qm_lists.specs.inner.Stack.{ComesTo}
use Rattle.qm_lists.proofs.WorkLists.{place_within}
use Rattle.qm_space.specs.Point.{Point}
use Rattle.qm_space.specs.Plane.{Plane, IsOn}
use Rattle.qm_space.specs.Cell.{IsInCell}
use Rattle.qm_space.specs.Book.{plane_at}
use Rattle.qm_partition.specs.declared.node.Node.{Node as NodeRecord}
use Rattle.qm_partition.specs.Partition.{Partition, node}
use Rattle.qm_partition.specs.Tree.{Tree}
use Rattle.qm_partition.specs.Counting.{leaf_count}
use Rattle.qm_partition.specs.Numbering.{nodes_after, leaves_after, child_of}
use Rattle.qm_partition.specs.Ways.{Way, ways, HasPoints}
use Rattle.qm_partition.proofs.Counts.{leaf_count-node, leaves_after-count}
use Rattle.qm_partition.proofs.Cells.{length-ways}
use Rattle.qm_contacts.specs.Meeting.{leaves_below, then_step, meetings_at, meetings_below}
use Rattle.qm_contacts.specs.Touching.{Touching, AreTouchings, none}
use Rattle.qm_contacts.specs.Outside.{TouchesOutside}
use Rattle.qm_contacts.specs.Contacts.{Contacts, AreContacts}
use Rattle.qm_contacts.specs.inner.Descent.{HasPointsBelow, AreBounds, AreWallFacets}
use Rattle.qm_contacts.specs.inner.Pieces.{walled_cell}
use Rattle.qm_contacts.specs.inner.Due.{DueCell, DueCellBelow, IsDueCell, ComesToTouchings, AreOutside, ComesToOutside}
use Rattle.qm_contacts.proofs.Pieces.{touchings_append}
use Rattle.qm_contacts.proofs.Descent.{points_in_front, points_behind, points_at_root, section_point}
use Rattle.qm_contacts.proofs.WaysBelow.{ways_in_front, ways_behind}
use Rattle.qm_contacts.proofs.PushedDown.{root_stands, IsLeafPart, IsNodePart}

-- ---- at a leaf

-- its cell shows whether it touches the outside
pub leaf_way : (tree : Tree) (entry : DueCellBelow) (j : ℕ) → IsDueCell tree entry → IsLeafPart entry.part entry.k j → slice_get (ways tree.shape) j ≡ Some entry.above
leaf_way tree entry j is part =
    let at = is.ways_below 0 [] (ap (λ (p : Partition). slice_get (ways p) 0) part.part_is) in
    let place : entry.k + 0 ≡ j = omega (arith, part.number_is) in
    ap (slice_get (ways tree.shape)) (sym place) ∙ at ∙ ap Some (append-nil entry.above)

-- it has no touching pairs
pub none_due_at_leaf : (planes : List Plane) (entry : DueCellBelow) (j : ℕ) (rest : List Touching) → IsLeafPart entry.part entry.k j → ComesTo (ComesToTouchings planes) [] rest → ComesToTouchings planes entry ([] ++ rest)
none_due_at_leaf planes entry j rest part is =
    subst (λ (all : List Touching). ComesToTouchings planes entry all) (sym is)
    (subst (λ (p : Partition). AreTouchings planes (meetings_below p entry.n entry.k entry.above) []) (sym part.part_is) none)

pub outside_due_at_leaf : (tree : Tree) (entry : DueCellBelow) (j : ℕ) (outside : Bool) (rest : List Bool) → IsLeafPart entry.part entry.k j → ((outside ≡ true) ↔ TouchesOutside tree j) → ComesTo (ComesToOutside tree) [] rest → ComesToOutside tree entry (outside ∷ [] ++ rest)
outside_due_at_leaf tree entry j outside rest part test is = record {
  one_each =
      let e = ap (λ (all : List Bool). length (outside ∷ all)) is in
      e ∙ sym (ap leaf_count part.part_is);
  are =
      subst (λ (all : List Bool). AreOutside tree entry.k (outside ∷ all)) (sym is)
      (subst (λ (m : ℕ). (outside ≡ true) ↔ TouchesOutside tree m) (sym part.number_is) test, tt);
}

-- ---- at a node

-- two entries, of which the last comes to its list first
two_due : {Entry Item : Type 0} (By : Entry → List Item → Type 0) (behind ahead : Entry) (rest : List Item) → ComesTo By (behind ∷ ahead ∷ []) rest → (first : List Item) × (second : List Item) × By ahead first × By behind second × (rest ≡ first ++ second)
two_due By behind ahead rest (second, others, by_behind, (first, none_left, by_ahead, none_is, others_are), is) =
    (first, second, by_ahead, by_behind, is ∙ ap (λ all. all ++ second) (others_are ∙ ap (λ all. all ++ first) none_is))

outside_append : (tree : Tree) (k : ℕ) (first second : List Bool) → AreOutside tree k first → AreOutside tree (k + length first) second → AreOutside tree k (first ++ second)
outside_append tree k [] second are more = subst (λ (m : ℕ). AreOutside tree m second) (omega arith) more
outside_append tree k (outside ∷ first) second are more =
    let one_more : k + suc (length first) ≡ (k + 1) + length first = omega arith in
    (are.0, outside_append tree (k + 1) first second are.1 (subst (λ (m : ℕ). AreOutside tree m second) one_more more))

module _ (tree : Tree) (entry : DueCellBelow) (here : NodeRecord) (is : IsNodePart tree.shape entry.part entry.n entry.k here) (front_cell back_cell : DueCell) where
  -- the children are due, that in front next, so that it stands on top
  abbrev pub front_due : DueCellBelow
  front_due = record { due = front_cell; part = is.front; n = entry.n + 1; k = entry.k; above = then_step entry.above here.plane true }

  abbrev pub back_due : DueCellBelow
  back_due = record { due = back_cell; part = is.back; n = nodes_after is.front (entry.n + 1); k = leaves_after is.front entry.k; above = then_step entry.above here.plane false }

  module _ (known : IsDueCell tree entry) where
    points_here : HasPointsBelow tree.planes entry.above (node here.plane is.front is.back)
    points_here = subst (HasPointsBelow tree.planes entry.above) is.part_is known.points

    ways_here : (i : ℕ) (way : Way) → slice_get (ways (node here.plane is.front is.back)) i ≡ Some way → slice_get (ways tree.shape) (entry.k + i) ≡ Some (entry.above ++ way)
    ways_here i way at = known.ways_below i way (ap (λ (p : Partition). slice_get (ways p) i) is.part_is ∙ at)

    -- what is known of them
    pub front_known : front_cell.child ≡ here.front → AreBounds tree.planes (then_step entry.above here.plane true) front_cell.bounds → AreWallFacets tree.planes (then_step entry.above here.plane true) front_cell.on_walls → IsDueCell tree front_due
    front_known child bounds facets = record {
      stands = record { is_part = is.front_stands.is_part; child_is = child ∙ is.front_stands.child_is };
      bounds = bounds;
      facets = facets;
      points = points_in_front tree.planes entry.above here.plane is.front is.back points_here;
      ways_below = ways_in_front tree.shape entry.above here.plane is.front is.back entry.k ways_here;
    }

    pub back_known : back_cell.child ≡ here.back → AreBounds tree.planes (then_step entry.above here.plane false) back_cell.bounds → AreWallFacets tree.planes (then_step entry.above here.plane false) back_cell.on_walls → IsDueCell tree back_due
    back_known child bounds facets = record {
      stands = record { is_part = is.back_stands.is_part; child_is = child ∙ is.back_stands.child_is };
      bounds = bounds;
      facets = facets;
      points = points_behind tree.planes entry.above here.plane is.front is.back points_here;
      ways_below = ways_behind tree.shape entry.above here.plane is.front is.back entry.k ways_here;
    }

    -- the node's plane has a point of the cell
    pub point_here : (x : Point) × IsOn (plane_at tree.planes here.plane) x × IsInCell (walled_cell tree.planes entry.above) x
    point_here = section_point tree.planes entry.above here.plane is.front is.back points_here

  -- the touching pairs at the node, and then those below its children
  pub touchings_due_at_node : (own rest : List Touching) → AreTouchings tree.planes (meetings_at entry.n here.plane entry.above (leaves_below is.front entry.k) (leaves_below is.back (leaves_after is.front entry.k))) own → ComesTo (ComesToTouchings tree.planes) (back_due ∷ front_due ∷ []) rest → ComesToTouchings tree.planes entry (own ++ rest)
  touchings_due_at_node own rest are comes =
      let both = two_due (ComesToTouchings tree.planes) back_due front_due rest comes in
      let at_node = meetings_at entry.n here.plane entry.above (leaves_below is.front entry.k) (leaves_below is.back (leaves_after is.front entry.k)) in
      let in_front = meetings_below is.front (entry.n + 1) entry.k (then_step entry.above here.plane true) in
      let behind = meetings_below is.back (nodes_after is.front (entry.n + 1)) (leaves_after is.front entry.k) (then_step entry.above here.plane false) in
      subst (λ (part : Partition). AreTouchings tree.planes (meetings_below part entry.n entry.k entry.above) (own ++ rest)) (sym is.part_is)
      (subst (λ (all : List Touching). AreTouchings tree.planes (at_node ++ (in_front ++ behind)) (own ++ all)) (sym both.4)
      (touchings_append tree.planes at_node (in_front ++ behind) own (both.0 ++ both.1) are
      (touchings_append tree.planes in_front behind both.0 both.1 both.2 both.3)))

  -- and the leaves below them that touch the outside
  pub outside_due_at_node : (rest : List Bool) → ComesTo (ComesToOutside tree) (back_due ∷ front_due ∷ []) rest → ComesToOutside tree entry ([] ++ rest)
  outside_due_at_node rest comes =
      let both = two_due (ComesToOutside tree) back_due front_due rest comes in
      let fronts = both.2.one_each in
      let backs = both.3.one_each in
      let place : leaves_after is.front entry.k ≡ entry.k + length both.0 = omega (arith, fronts, leaves_after-count is.front entry.k) in
      record {
        one_each =
            ap length both.4 ∙ length-append both.0 both.1 ∙ (λ i. fronts i + backs i) ∙ sym (leaf_count-node here.plane is.front is.back) ∙ sym (ap leaf_count is.part_is);
        are = subst (λ (all : List Bool). AreOutside tree entry.k all) (sym both.4)
            (outside_append tree entry.k both.0 both.1 both.2.are (subst (λ (m : ℕ). AreOutside tree m both.1) place both.3.are));
      }

-- ---- the whole tree

abbrev pub root_due : Tree → DueCell → DueCellBelow
root_due tree cell = record { due = cell; part = tree.shape; n = 0; k = 0; above = [] }

outside_at : (tree : Tree) (k i : ℕ) (row : List Bool) → AreOutside tree k row → i < length row → IsIn row i ↔ TouchesOutside tree (k + i)
outside_at tree k i [] are within = absurd (omega (arith, within))
outside_at tree k zero (outside ∷ row) are within = subst (λ (m : ℕ). (outside ≡ true) ↔ TouchesOutside tree m) (omega arith) are.0
outside_at tree k (suc i) (outside ∷ row) are within =
    let one_more : (k + 1) + i ≡ k + suc i = omega arith in
    subst (λ (m : ℕ). IsIn row i ↔ TouchesOutside tree m) one_more (outside_at tree (k + 1) i row are.1 (omega (arith, within)))

-- all touching pairs and all leaves that touch the outside are all contacts
pub all_contacts : (tree : Tree) (cell : DueCell) (contacts : Contacts) → HasPoints tree → ComesToTouchings tree.planes (root_due tree cell) contacts.touchings → ComesToOutside tree (root_due tree cell) contacts.outside → AreContacts tree contacts
all_contacts tree cell contacts have touchings outside = record { points = have; touching = touchings; one_each = outside.one_each; outside = λ k. (there k, back k) }
  where
    at : (k : ℕ) → k < length contacts.outside → IsIn contacts.outside k ↔ TouchesOutside tree k
    at k within = subst (λ (m : ℕ). IsIn contacts.outside k ↔ TouchesOutside tree m) (omega arith) (outside_at tree 0 k contacts.outside outside.are within)

    there : (k : ℕ) → IsIn contacts.outside k → TouchesOutside tree k
    there k is = (at k (place_within contacts.outside k is)).0 is

    back : (k : ℕ) → TouchesOutside tree k → IsIn contacts.outside k
    back k touches =
        let within = slice_get_within (ways tree.shape) k touches.way touches.way_is in
        (at k (omega (arith, within, length-ways tree.shape, outside.one_each))).1 touches

-- what is known at the root
pub root_known : (tree : Tree) (cell : DueCell) → HasPoints tree → cell.child ≡ child_of tree.shape 0 0 → AreBounds tree.planes [] cell.bounds → AreWallFacets tree.planes [] cell.on_walls → IsDueCell tree (root_due tree cell)
root_known tree cell have child bounds facets = record {
  stands = record { is_part = (root_stands tree.shape).is_part; child_is = child };
  bounds = bounds;
  facets = facets;
  points = points_at_root tree have;
  ways_below = λ i way at. ap (slice_get (ways tree.shape)) {x = 0 + i} {y = i} (omega arith) ∙ at;
}
