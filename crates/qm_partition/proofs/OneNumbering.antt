-- Two partitions with the same numbered nodes and leaves are the same.
use Rattle.std.proofs.Common.{◌≡◌, ℕ, ◌+◌, List, [], ◌∷◌, ◌++◌, refl, sym, ap, ◌∙◌}
use Rattle.std.proofs.lemmas.List.{append_assoc}
use Rattle.qm_partition.specs.declared.node.Node.{Node as NodeRecord}
use Rattle.qm_partition.specs.declared.node.Leaf.{Leaf as LeafRecord}
use Rattle.qm_partition.specs.declared.node.Child.TheVariants.{Node, Leaf}
use Rattle.qm_partition.specs.Partition.{Partition, leaf, node}
use Rattle.qm_partition.specs.Counting.{leaves_of}
use Rattle.qm_partition.specs.Numbering.{nodes_after, leaves_after, child_of, nodes_of, AreNumbered}

-- the partitions are the same, and so is what stands behind their nodes and leaves
record AreSame (s t : Partition) (a b : List NodeRecord) (c d : List LeafRecord) : Type 0 where
  shapes : s ≡ t
  nodes : a ≡ b
  leaves : c ≡ d

-- what a first item is, and what stands behind it
first_of : {X : Type 0} (x y : X) (xs ys : List X) → x ∷ xs ≡ y ∷ ys → (x ≡ y) × (xs ≡ ys)
first_of x y xs ys same = (cc, cc)

one_leaf : (f g : LeafRecord) (a b : List NodeRecord) (c d : List LeafRecord) → a ≡ b → f ∷ c ≡ g ∷ d → AreSame (leaf f) (leaf g) a b c d
one_leaf f g a b c d nodes leaves =
    let first = first_of f g c d leaves in
    record { shapes = ap leaf first.0; nodes = nodes; leaves = first.1 }

-- partitions of which the same is written, whatever stands behind
same_written : (s t : Partition) (n k : ℕ) (a b : List NodeRecord) (c d : List LeafRecord) → child_of s n k ≡ child_of t n k → nodes_of s n k ++ a ≡ nodes_of t n k ++ b → leaves_of s ++ c ≡ leaves_of t ++ d → AreSame s t a b c d
same_written (leaf f) (leaf g) n k a b c d child nodes leaves = one_leaf f g a b c d nodes leaves
same_written (leaf f) (node p front back) n k a b c d child nodes leaves = absurd (let e : Leaf k ≡ Node n = child in cc)
same_written (node p front back) (leaf g) n k a b c d child nodes leaves = absurd (let e : Node n ≡ Leaf k = child in cc)
same_written (node p front back) (node q front' back') n k a b c d child nodes leaves =
    let n_back = nodes_after front (n + 1) in
    let k_back = leaves_after front k in
    let n_back' = nodes_after front' (n + 1) in
    let k_back' = leaves_after front' k in
    let one : NodeRecord = record { plane = p; front = child_of front (n + 1) k; back = child_of back n_back k_back } in
    let other : NodeRecord = record { plane = q; front = child_of front' (n + 1) k; back = child_of back' n_back' k_back' } in
    let nodes_front = nodes_of front (n + 1) k in
    let nodes_front' = nodes_of front' (n + 1) k in
    let nodes_back = nodes_of back n_back k_back in
    let nodes_back' = nodes_of back' n_back' k_back' in
    let first = first_of one other ((nodes_front ++ nodes_back) ++ a) ((nodes_front' ++ nodes_back') ++ b) nodes in
    let behind = sym (append_assoc nodes_front nodes_back a) ∙ first.1 ∙ append_assoc nodes_front' nodes_back' b in
    let behind_leaves = sym (append_assoc (leaves_of front) (leaves_of back) c) ∙ leaves ∙ append_assoc (leaves_of front') (leaves_of back') d in
    let fronts = same_written front front' (n + 1) k (nodes_back ++ a) (nodes_back' ++ b) (leaves_of back ++ c) (leaves_of back' ++ d) (ap (λ (m : NodeRecord). m.front) first.0) behind behind_leaves in
    let same_front : front' ≡ front = sym fronts.shapes in
    let child_back : child_of back n_back k_back ≡ child_of back' n_back k_back =
    ap (λ (m : NodeRecord). m.back) first.0 ∙ ap (λ (f : Partition). child_of back' (nodes_after f (n + 1)) (leaves_after f k)) same_front in
    let back_nodes : nodes_back ++ a ≡ nodes_of back' n_back k_back ++ b =
    fronts.nodes ∙ ap (λ (f : Partition). nodes_of back' (nodes_after f (n + 1)) (leaves_after f k) ++ b) same_front in
    let backs = same_written back back' n_back k_back a b c d child_back back_nodes fronts.leaves in
    record {
      shapes = ap (λ (m : NodeRecord). node m.plane front back) first.0 ∙ ap (λ (f : Partition). node q f back) fronts.shapes ∙ ap (λ (g : Partition). node q front' g) backs.shapes;
      nodes = backs.nodes;
      leaves = backs.leaves;
    }

-- the root of a partition is a leaf where there are no nodes
root_of : (s t : Partition) → nodes_of s 0 0 ≡ nodes_of t 0 0 → child_of s 0 0 ≡ child_of t 0 0
root_of (leaf f) (leaf g) same = refl
root_of (leaf f) (node p front back) same = absurd cc
root_of (node p front back) (leaf g) same = absurd cc
root_of (node p front back) (node q front' back') same = refl

pub one_partition : (s t : Partition) (nodes : List NodeRecord) (leaves : List LeafRecord) → AreNumbered s nodes leaves → AreNumbered t nodes leaves → s ≡ t
one_partition s t nodes leaves of_s of_t =
    let same_nodes = sym of_s.nodes_are ∙ of_t.nodes_are in
    let same_leaves = sym of_s.leaves_are ∙ of_t.leaves_are in
    (same_written s t 0 0 [] [] [] [] (root_of s t same_nodes) (ap (λ (all : List NodeRecord). all ++ []) same_nodes) (ap (λ (all : List LeafRecord). all ++ []) same_leaves)).shapes
