-- What marking leaves keeps: nodes, ways, numbers and counts; and which leaves the marked partition has.
use Rattle.std.proofs.Common.{◌≡◌, ℕ, zero, suc, ◌+◌, Bool, true, false, List, [], ◌∷◌, ◌++◌, get_or, length, map, slice_get, Some, inl, inr, refl, sym, ap, ◌∙◌, arith}
use Rattle.std.specs.Prelude.{option_map}
use Rattle.qm_space.specs.Point.{Point}
use Rattle.qm_space.specs.Plane.{Plane}
use Rattle.qm_numbers.proofs.Signs.{side_test}
use Rattle.qm_partition.specs.declared.node.Leaf.{Leaf}
use Rattle.qm_partition.specs.Partition.{Partition, leaf, node}
use Rattle.qm_partition.specs.Counting.{leaves_of, leaf_count, node_planes}
use Rattle.qm_partition.specs.Numbering.{nodes_after, leaves_after, child_of, nodes_of}
use Rattle.qm_partition.specs.LeafOfPoint.{node_value, leaf_record_at, leaf_at}
use Rattle.qm_partition.specs.Ways.{after_step, ways}
use Rattle.qm_partition.specs.Marked.{filled_leaf, marked_leaf, marked}
use Rattle.qm_partition.proofs.Counts.{leaves_after-count}

module _ (row : List Bool) where
  pub marked_nodes_after : (shape : Partition) (k n : ℕ) → nodes_after (marked row shape k) n ≡ nodes_after shape n
  marked_nodes_after (leaf found) k n = refl
  marked_nodes_after (node plane front back) k n =
      ap (nodes_after (marked row back (leaves_after front k))) (marked_nodes_after front k (n + 1)) ∙ marked_nodes_after back (leaves_after front k) (nodes_after front (n + 1))

  pub marked_leaves_after : (shape : Partition) (k j : ℕ) → leaves_after (marked row shape k) j ≡ leaves_after shape j
  marked_leaves_after (leaf found) k j = refl
  marked_leaves_after (node plane front back) k j =
      ap (leaves_after (marked row back (leaves_after front k))) (marked_leaves_after front k j) ∙ marked_leaves_after back (leaves_after front k) (leaves_after front j)

  marked_child : (shape : Partition) (k n j : ℕ) → child_of (marked row shape k) n j ≡ child_of shape n j
  marked_child (leaf found) k n j = refl
  marked_child (node plane front back) k n j = refl

  -- the nodes with their numbers
  pub marked_nodes : (shape : Partition) (k n j : ℕ) → nodes_of (marked row shape k) n j ≡ nodes_of shape n j
  marked_nodes (leaf found) k n j = refl
  marked_nodes (node plane front back) k n j =
      let k_back = leaves_after front k in
      let m = marked_nodes_after front k (n + 1) in
      let l = marked_leaves_after front k j in
      let child_front = marked_child front k (n + 1) j in
      let child_back = ap (λ (a : ℕ). child_of (marked row back k_back) a (leaves_after (marked row front k) j)) m ∙ ap (λ (b : ℕ). child_of (marked row back k_back) (nodes_after front (n + 1)) b) l ∙ marked_child back k_back (nodes_after front (n + 1)) (leaves_after front j) in
      let in_front = marked_nodes front k (n + 1) j in
      let behind = ap (λ (a : ℕ). nodes_of (marked row back k_back) a (leaves_after (marked row front k) j)) m ∙ ap (λ (b : ℕ). nodes_of (marked row back k_back) (nodes_after front (n + 1)) b) l ∙ marked_nodes back k_back (nodes_after front (n + 1)) (leaves_after front j) in
      λ i. record { plane = plane; front = child_front i; back = child_back i } ∷ (in_front i ++ behind i)

  -- the ways down
  pub marked_ways : (shape : Partition) (k : ℕ) → ways (marked row shape k) ≡ ways shape
  marked_ways (leaf found) k = refl
  marked_ways (node plane front back) k =
      λ i. map (after_step plane true) (marked_ways front k i) ++ map (after_step plane false) (marked_ways back (leaves_after front k) i)

  pub marked_planes : (shape : Partition) (k : ℕ) → node_planes (marked row shape k) ≡ node_planes shape
  marked_planes (leaf found) k = refl
  marked_planes (node plane front back) k = λ i. plane ∷ (marked_planes front k i ++ marked_planes back (leaves_after front k) i)

  -- the leaves, numbered from k on, each as the row says
  abbrev pub marked_leaves : List Leaf → ℕ → List Leaf
  marked_leaves [] k = []
  marked_leaves (found ∷ rest) k = marked_leaf (get_or row k false) found ∷ marked_leaves rest (k + 1)

  marked_leaves-append : (first second : List Leaf) (k : ℕ) → marked_leaves (first ++ second) k ≡ marked_leaves first k ++ marked_leaves second (k + length first)
  marked_leaves-append [] second k = ap (marked_leaves second) (omega arith)
  marked_leaves-append (found ∷ first) second k =
      let more : (k + 1) + length first ≡ k + suc (length first) = omega arith in
      ap (λ (rest : List Leaf). marked_leaf (get_or row k false) found ∷ rest) (marked_leaves-append first second (k + 1) ∙ ap (λ (m : ℕ). marked_leaves first (k + 1) ++ marked_leaves second m) more)

  pub leaves_of_marked : (shape : Partition) (k : ℕ) → leaves_of (marked row shape k) ≡ marked_leaves (leaves_of shape) k
  leaves_of_marked (leaf found) k = refl
  leaves_of_marked (node plane front back) k =
      (λ i. leaves_of_marked front k i ++ leaves_of_marked back (leaves_after front k) i)
      ∙ ap (λ (m : ℕ). marked_leaves (leaves_of front) k ++ marked_leaves (leaves_of back) m) (leaves_after-count front k)
      ∙ sym (marked_leaves-append (leaves_of front) (leaves_of back) k)

  pub length-marked_leaves : (all : List Leaf) (k : ℕ) → length (marked_leaves all k) ≡ length all
  length-marked_leaves [] k = refl
  length-marked_leaves (found ∷ all) k = ap suc (length-marked_leaves all (k + 1))

  pub marked_count : (shape : Partition) (k : ℕ) → leaf_count (marked row shape k) ≡ leaf_count shape
  marked_count shape k = ap length (leaves_of_marked shape k) ∙ length-marked_leaves (leaves_of shape) k

  -- the leaf at a place
  leaf_at_place : (all : List Leaf) (k i : ℕ) → slice_get (marked_leaves all k) i ≡ option_map (marked_leaf (get_or row (k + i) false)) (slice_get all i)
  leaf_at_place [] k i = refl
  leaf_at_place (found ∷ all) k zero = ap (λ (m : ℕ). Some (marked_leaf (get_or row m false) found)) (omega arith)
  leaf_at_place (found ∷ all) k (suc i) =
      let more : (k + 1) + i ≡ k + suc i = omega arith in
      leaf_at_place all (k + 1) i ∙ ap (λ (m : ℕ). option_map (marked_leaf (get_or row m false)) (slice_get all i)) more

  pub marked_leaf_at_place : (shape : Partition) (i : ℕ) → slice_get (leaves_of (marked row shape 0)) i ≡ option_map (marked_leaf (get_or row i false)) (slice_get (leaves_of shape) i)
  marked_leaf_at_place shape i = ap (λ (all : List Leaf). slice_get all i) (leaves_of_marked shape 0) ∙ leaf_at_place (leaves_of shape) 0 i ∙ ap (λ (m : ℕ). option_map (marked_leaf (get_or row m false)) (slice_get (leaves_of shape) i)) none_more
    where
      none_more : 0 + i ≡ i
      none_more = omega arith

  -- the same, where past the last place a leaf is marked whatever the row says
  pub marked_at : (all : List Leaf) (k i : ℕ) → get_or (marked_leaves all k) i filled_leaf ≡ marked_leaf (get_or row (k + i) false) (get_or all i filled_leaf)
  marked_at [] k i = filled_either_way (get_or row (k + i) false)
    where
      filled_either_way : (mark : Bool) → filled_leaf ≡ marked_leaf mark filled_leaf
      filled_either_way true = refl
      filled_either_way false = refl
  marked_at (found ∷ all) k zero = ap (λ (m : ℕ). marked_leaf (get_or row m false) found) {x = k} {y = k + 0} (omega arith)
  marked_at (found ∷ all) k (suc i) =
      let more : (k + 1) + i ≡ k + suc i = omega arith in
      marked_at all (k + 1) i ∙ ap (λ (m : ℕ). marked_leaf (get_or row m false) (get_or all i filled_leaf)) more

  -- ---- the leaf of a point

  pub marked_leaf_number : (planes : List Plane) (shape : Partition) (k : ℕ) (x : Point) → leaf_at planes (marked row shape k) x ≡ leaf_at planes shape x
  marked_leaf_number planes (leaf found) k x = refl
  marked_leaf_number planes (node plane front back) k x = elim (side_test (node_value planes plane x)) [
    | inl behind ↦ rw behind.0 (omega (arith, marked_count front k, marked_leaf_number planes back (leaves_after front k) x))
    | inr ahead ↦ rw ahead.0 (marked_leaf_number planes front k x)
  ]

  pub marked_leaf_of_point : (planes : List Plane) (shape : Partition) (k : ℕ) (x : Point) → leaf_record_at planes (marked row shape k) x ≡ marked_leaf (get_or row (k + leaf_at planes shape x) false) (leaf_record_at planes shape x)
  marked_leaf_of_point planes (leaf found) k x = ap (λ (m : ℕ). marked_leaf (get_or row m false) found) (omega arith)
  marked_leaf_of_point planes (node plane front back) k x = elim (side_test (node_value planes plane x)) [
    | inl behind ↦
        let more : leaves_after front k + leaf_at planes back x ≡ k + (leaf_count front + leaf_at planes back x) = omega (arith, leaves_after-count front k) in
        rw behind.0 (marked_leaf_of_point planes back (leaves_after front k) x ∙ ap (λ (m : ℕ). marked_leaf (get_or row m false) (leaf_record_at planes back x)) more)
    | inr ahead ↦ rw ahead.0 (marked_leaf_of_point planes front k x)
  ]
