-- Marking leaves changes no meeting, so that contacts are found before leaves are marked, and stay.
use Rattle.std.proofs.Common.{◌≡◌, ℕ, ◌+◌, Bool, true, false, List, [], ◌++◌, map, slice_get, refl, ap, sym, ◌∙◌, subst}
use Rattle.qm_partition.specs.Partition.{Partition, leaf, node}
use Rattle.qm_partition.specs.Tree.{Tree}
use Rattle.qm_partition.specs.Numbering.{nodes_after, leaves_after}
use Rattle.qm_partition.specs.Ways.{Way}
use Rattle.qm_partition.specs.Marked.{marked, marked_tree}
use Rattle.qm_partition.proofs.MarkedLeaves.{marked_nodes_after, marked_leaves_after, marked_ways, marked_count}
use Rattle.qm_partition.proofs.MarkedParts.{marked_points}
use Rattle.qm_contacts.specs.Meeting.{Meeting, seen_from, leaves_below, meetings_at, then_step, meetings_below, meetings}
use Rattle.qm_contacts.specs.Touching.{AreTouchings}
use Rattle.qm_contacts.specs.Outside.{TouchesOutside}
use Rattle.qm_contacts.specs.Contacts.{Contacts, AreContacts}

module _ (row : List Bool) where
  pub marked_below : (shape : Partition) (k j : ℕ) → leaves_below (marked row shape k) j ≡ leaves_below shape j
  marked_below (leaf found) k j = refl
  marked_below (node plane front back) k j =
      let k_back = leaves_after front k in
      let behind = ap (leaves_below (marked row back k_back)) (marked_leaves_after row front k j) ∙ marked_below back k_back (leaves_after front j) in
      λ i. map (seen_from plane true) (marked_below front k j i) ++ map (seen_from plane false) (behind i)

  pub marked_meetings_below : (shape : Partition) (k n j : ℕ) (above : Way) → meetings_below (marked row shape k) n j above ≡ meetings_below shape n j above
  marked_meetings_below (leaf found) k n j above = refl
  marked_meetings_below (node plane front back) k n j above =
      let k_back = leaves_after front k in
      let m = marked_nodes_after row front k (n + 1) in
      let l = marked_leaves_after row front k j in
      let below = ap (leaves_below (marked row back k_back)) l ∙ marked_below back k_back (leaves_after front j) in
      let behind =
      ap (λ (a : ℕ). meetings_below (marked row back k_back) a (leaves_after (marked row front k) j) (then_step above plane false)) m
      ∙ ap (λ (b : ℕ). meetings_below (marked row back k_back) (nodes_after front (n + 1)) b (then_step above plane false)) l
      ∙ marked_meetings_below back k_back (nodes_after front (n + 1)) (leaves_after front j) (then_step above plane false) in
      λ i. meetings_at n plane above (marked_below front k j i) (below i) ++ (marked_meetings_below front k (n + 1) j (then_step above plane true) i ++ behind i)

  pub marked_meetings : (tree : Tree) → meetings (marked_tree row tree) ≡ meetings tree
  marked_meetings tree = marked_meetings_below tree.shape 0 0 0 []

  -- nor what touches the outside
  outside_marked : (tree : Tree) (k : ℕ) → TouchesOutside tree k → TouchesOutside (marked_tree row tree) k
  outside_marked tree k touches = record {
    way = touches.way;
    way_is = ap (λ (all : List Way). slice_get all k) (marked_ways row tree.shape 0) ∙ touches.way_is;
    wall = touches.wall;
    is_wall = touches.is_wall;
    point = touches.point;
    on_face = touches.on_face;
    in_cell = touches.in_cell;
  }

  outside_unmarked : (tree : Tree) (k : ℕ) → TouchesOutside (marked_tree row tree) k → TouchesOutside tree k
  outside_unmarked tree k touches = record {
    way = touches.way;
    way_is = ap (λ (all : List Way). slice_get all k) (sym (marked_ways row tree.shape 0)) ∙ touches.way_is;
    wall = touches.wall;
    is_wall = touches.is_wall;
    point = touches.point;
    on_face = touches.on_face;
    in_cell = touches.in_cell;
  }

  -- so the contacts of a tree are those of the marked one
  pub marked_contacts : (tree : Tree) (contacts : Contacts) → AreContacts tree contacts → AreContacts (marked_tree row tree) contacts
  marked_contacts tree contacts are = record {
    points = marked_points row tree are.points;
    touching = subst (λ (all : List Meeting). AreTouchings tree.planes all contacts.touchings) (sym (marked_meetings tree)) are.touching;
    one_each = are.one_each ∙ sym (marked_count row tree.shape 0);
    outside = λ k. (λ there. outside_marked tree k ((are.outside k).0 there), λ touches. (are.outside k).1 (outside_unmarked tree k touches));
  }
