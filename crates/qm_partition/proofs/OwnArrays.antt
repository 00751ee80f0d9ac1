-- The partition of the numbered nodes and leaves of a partition is that partition.
use Rattle.std.proofs.Common.{◌≡◌, ℕ, ◌+◌, false, List, [], ◌∷◌, ◌++◌, Some, refl, sym, ap, ◌∙◌, arith, add-zero, zero-add}
use Rattle.std.specs.Prelude.{slice_get}
use Rattle.std.proofs.lemmas.List.{append_assoc, append-nil}
use Rattle.std.proofs.lemmas.Option.{get_or_from_slice_get}
use Rattle.qm_lists.proofs.Places.{slice_get-append_old, slice_get-append_past}
use Rattle.qm_contents.specs.declared.contents.Contents.TheVariants.{Empty}
use Rattle.qm_partition.specs.declared.node.Node.{Node as NodeRecord}
use Rattle.qm_partition.specs.declared.node.Leaf.{Leaf as LeafRecord}
use Rattle.qm_partition.specs.Partition.{Partition, leaf, node}
use Rattle.qm_partition.specs.Counting.{leaves_of, leaf_count}
use Rattle.qm_partition.specs.Numbering.{nodes_after, leaves_after, child_of, nodes_of, AreNumbered}
use Rattle.qm_partition.specs.Arrays.{placed, still_waiting, with_node, partitions_of, partition_of}
use Rattle.qm_partition.proofs.Counts.{leaves_after-count}
use Rattle.qm_partition.proofs.PlacedParts.{top_node}

module _ (leaves : List LeafRecord) where
  -- the leaves of a partition stand at their numbers, from k on
  pub record AreLeavesAt (shape : Partition) (k : ℕ) : Type 0 where
    pub at : (i : ℕ) (found : LeafRecord) → slice_get (leaves_of shape) i ≡ Some found → slice_get leaves (k + i) ≡ Some found

  pub leaves_front : (p : ℕ) (front back : Partition) (k : ℕ) → AreLeavesAt (node p front back) k → AreLeavesAt front k
  leaves_front p front back k are = record { at = λ i found at. are.at i found (slice_get-append_old (leaves_of front) (leaves_of back) found i at) }

  pub leaves_back : (p : ℕ) (front back : Partition) (k : ℕ) → AreLeavesAt (node p front back) k → AreLeavesAt back (leaves_after front k)
  leaves_back p front back k are =
      record {
        at = λ i found at.
            let place : leaves_after front k + i ≡ k + (leaf_count front + i) = omega (arith, leaves_after-count front k) in
            rw place (are.at (leaf_count front + i) found (slice_get-append_past (leaves_of front) (leaves_of back) i ∙ at));
      }

  -- partitions that wait, with one more in front unless it is a leaf
  abbrev with_shape : Partition → List Partition → List Partition
  with_shape (leaf found) waiting = waiting
  with_shape (node p front back) waiting = node p front back ∷ waiting

  placed-own : (shape : Partition) (n k : ℕ) (waiting : List Partition) → AreLeavesAt shape k → placed leaves (child_of shape n k) (with_shape shape waiting) ≡ shape
  placed-own (leaf found) n k waiting are =
      let here : slice_get leaves k ≡ Some found = rw add-zero at (are.at 0 found refl) in
      ap leaf (get_or_from_slice_get leaves k found (record { contents = Empty; filled = false }) here)
  placed-own (node p front back) n k waiting are = refl

  still_waiting-own : (shape : Partition) (n k : ℕ) (waiting : List Partition) → still_waiting (child_of shape n k) (with_shape shape waiting) ≡ waiting
  still_waiting-own (leaf found) n k waiting = refl
  still_waiting-own (node p front back) n k waiting = refl

  with_top_node : (p : ℕ) (front back : Partition) (n k : ℕ) (waiting : List Partition) → AreLeavesAt front k → AreLeavesAt back (leaves_after front k) → with_node leaves (top_node p front back n k) (with_shape front (with_shape back waiting)) ≡ node p front back ∷ waiting
  with_top_node p front back n k waiting of_front of_back =
      let n_back = nodes_after front (n + 1) in
      let k_back = leaves_after front k in
      let behind = still_waiting-own front (n + 1) k (with_shape back waiting) in
      ap (λ (s : Partition). node p s (placed leaves (child_of back n_back k_back) (still_waiting (child_of front (n + 1) k) (with_shape front (with_shape back waiting)))) ∷ still_waiting (child_of back n_back k_back) (still_waiting (child_of front (n + 1) k) (with_shape front (with_shape back waiting)))) (placed-own front (n + 1) k (with_shape back waiting) of_front)
      ∙ ap (λ (left : List Partition). node p front (placed leaves (child_of back n_back k_back) left) ∷ still_waiting (child_of back n_back k_back) left) behind
      ∙ ap (λ (s : Partition). node p front s ∷ still_waiting (child_of back n_back k_back) (with_shape back waiting)) (placed-own back n_back k_back waiting of_back)
      ∙ ap (λ (left : List Partition). node p front back ∷ left) (still_waiting-own back n_back k_back waiting)

  partitions_of-nodes : (shape : Partition) (n k : ℕ) (rest : List NodeRecord) → AreLeavesAt shape k → partitions_of leaves (nodes_of shape n k ++ rest) ≡ with_shape shape (partitions_of leaves rest)
  partitions_of-nodes (leaf found) n k rest are = refl
  partitions_of-nodes (node p front back) n k rest are =
      let n_back = nodes_after front (n + 1) in
      let k_back = leaves_after front k in
      let of_front = leaves_front p front back k are in
      let of_back = leaves_back p front back k are in
      ap (with_node leaves (top_node p front back n k)) (
      ap (partitions_of leaves) (append_assoc (nodes_of front (n + 1) k) (nodes_of back n_back k_back) rest)
      ∙ partitions_of-nodes front (n + 1) k (nodes_of back n_back k_back ++ rest) of_front
      ∙ ap (with_shape front) (partitions_of-nodes back n_back k_back rest of_back))
      ∙ with_top_node p front back n k (partitions_of leaves rest) of_front of_back

partition_of-own : (shape : Partition) → partition_of (nodes_of shape 0 0) (leaves_of shape) ≡ shape
partition_of-own (leaf found) = refl
partition_of-own (node p front back) =
    let shape = node p front back in
    let leaves = leaves_of shape in
    let are : AreLeavesAt leaves shape 0 = record { at = λ i found at. rw zero-add at } in
    ap (placed leaves (child_of shape 0 0)) (
    ap (partitions_of leaves) (sym (append-nil (nodes_of shape 0 0)))
    ∙ partitions_of-nodes leaves shape 0 0 [] are)

pub partition_of-numbered : (shape : Partition) (nodes : List NodeRecord) (leaves : List LeafRecord) → AreNumbered shape nodes leaves → partition_of nodes leaves ≡ shape
partition_of-numbered shape nodes leaves are =
    ap (λ (nodes : List NodeRecord). partition_of nodes leaves) are.nodes_are
    ∙ ap (partition_of (nodes_of shape 0 0)) are.leaves_are
    ∙ partition_of-own shape
