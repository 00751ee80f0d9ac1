-- Nodes are those of a tree, whatever its leaves are, exactly where they are the nodes of the partition that they make.
use Rattle.std.proofs.Common.{◌≡◌, ◌↔◌, ℕ, ◌+◌, Bool, true, false, eqb, ◌&&◌, ◌==◌, replicate, List, [], ◌∷◌, ◌++◌, length, take, drop, refl, sym, ap, subst, ◌∙◌, arith}
use Rattle.std.specs.Prelude.{IsTrue}
use Rattle.std.proofs.lemmas.Bool.{and_parts, and_from, eq-eqb, eqb-true}
use Rattle.std.proofs.lemmas.List.{length-take, length-drop, length-replicate, take-append-drop}
use Rattle.qm_contents.specs.declared.contents.Contents.TheVariants.{Empty}
use Rattle.qm_partition.specs.declared.node.Child.{Child}
use Rattle.qm_partition.specs.declared.node.Child.TheVariants.{Node, Leaf}
use Rattle.qm_partition.specs.declared.node.Node.{Node as NodeRecord}
use Rattle.qm_partition.specs.declared.node.Leaf.{Leaf as LeafRecord}
use Rattle.qm_partition.specs.Partition.{Partition, leaf, node}
use Rattle.qm_partition.specs.Counting.{leaves_of, leaf_count}
use Rattle.qm_partition.specs.Numbering.{nodes_after, leaves_after, child_of, nodes_of, AreNumbered}
use Rattle.qm_partition.specs.Arrays.{partition_of}
use Rattle.qm_partition.proofs.Counts.{leaf_count-node, one_leaf_more, length-nodes_of, nodes-count}
use Rattle.qm_partition.proofs.OwnArrays.{partition_of-numbered}

-- ---- a test of nodes

abbrev pub same_child : Child → Child → Bool
same_child (Node n) (Node m) = n == m
same_child (Leaf j) (Leaf k) = j == k
same_child _ _ = false

abbrev pub same_node : NodeRecord → NodeRecord → Bool
same_node a b = (a.plane == b.plane) && (same_child a.front b.front && same_child a.back b.back)

abbrev pub same_nodes : List NodeRecord → List NodeRecord → Bool
same_nodes [] [] = true
same_nodes (x ∷ xs) (y ∷ ys) = same_node x y && same_nodes xs ys
same_nodes _ _ = false

-- some leaves, one more than nodes
abbrev pub some_leaves : List NodeRecord → List LeafRecord
some_leaves nodes = replicate (length nodes + 1) (record { contents = Empty; filled = false })

-- whether nodes are the nodes of the partition that they make
unfoldable pub pass_as_numbered : List NodeRecord → Bool
pass_as_numbered nodes = same_nodes nodes (nodes_of (partition_of nodes (some_leaves nodes)) 0 0)

-- the same nodes with other leaves
abbrev with_leaves : Partition → List LeafRecord → Partition
with_leaves (leaf found) [] = leaf found
with_leaves (leaf found) (other ∷ leaves) = leaf other
with_leaves (node p front back) leaves = node p (with_leaves front (take (leaf_count front) leaves)) (with_leaves back (drop (leaf_count front) leaves))

other_nodes_after : (shape : Partition) (leaves : List LeafRecord) (n : ℕ) → nodes_after (with_leaves shape leaves) n ≡ nodes_after shape n
other_nodes_after (leaf found) [] n = refl
other_nodes_after (leaf found) (other ∷ leaves) n = refl
other_nodes_after (node p front back) leaves n =
    let rest = drop (leaf_count front) leaves in
    ap (nodes_after (with_leaves back rest)) (other_nodes_after front (take (leaf_count front) leaves) (n + 1)) ∙ other_nodes_after back rest (nodes_after front (n + 1))

other_leaves_after : (shape : Partition) (leaves : List LeafRecord) (k : ℕ) → leaves_after (with_leaves shape leaves) k ≡ leaves_after shape k
other_leaves_after (leaf found) [] k = refl
other_leaves_after (leaf found) (other ∷ leaves) k = refl
other_leaves_after (node p front back) leaves k =
    let rest = drop (leaf_count front) leaves in
    ap (leaves_after (with_leaves back rest)) (other_leaves_after front (take (leaf_count front) leaves) k) ∙ other_leaves_after back rest (leaves_after front k)

other_child : (shape : Partition) (leaves : List LeafRecord) (n k : ℕ) → child_of (with_leaves shape leaves) n k ≡ child_of shape n k
other_child (leaf found) [] n k = refl
other_child (leaf found) (other ∷ leaves) n k = refl
other_child (node p front back) leaves n k = refl

other_nodes : (shape : Partition) (leaves : List LeafRecord) (n k : ℕ) → nodes_of (with_leaves shape leaves) n k ≡ nodes_of shape n k
other_nodes (leaf found) [] n k = refl
other_nodes (leaf found) (other ∷ leaves) n k = refl
other_nodes (node p front back) leaves n k =
    let some = take (leaf_count front) leaves in
    let rest = drop (leaf_count front) leaves in
    let behind = with_leaves back rest in
    let m = other_nodes_after front some (n + 1) in
    let l = other_leaves_after front some k in
    let child_front = other_child front some (n + 1) k in
    let child_back = ap (λ (a : ℕ). child_of behind a (leaves_after (with_leaves front some) k)) m ∙ ap (λ (b : ℕ). child_of behind (nodes_after front (n + 1)) b) l ∙ other_child back rest (nodes_after front (n + 1)) (leaves_after front k) in
    let nodes_front = other_nodes front some (n + 1) k in
    let nodes_back = ap (λ (a : ℕ). nodes_of behind a (leaves_after (with_leaves front some) k)) m ∙ ap (λ (b : ℕ). nodes_of behind (nodes_after front (n + 1)) b) l ∙ other_nodes back rest (nodes_after front (n + 1)) (leaves_after front k) in
    λ i. record { plane = p; front = child_front i; back = child_back i } ∷ (nodes_front i ++ nodes_back i)

other_leaves : (shape : Partition) (leaves : List LeafRecord) → length leaves ≡ leaf_count shape → leaves_of (with_leaves shape leaves) ≡ leaves
other_leaves (leaf found) [] long = absurd (omega (arith, long))
other_leaves (leaf found) (other ∷ []) long = refl
other_leaves (leaf found) (other ∷ more ∷ leaves) long = absurd (omega (arith, long))
other_leaves (node p front back) leaves long =
    let count = leaf_count front in
    let both = long ∙ leaf_count-node p front back in
    let in_front = other_leaves front (take count leaves) (omega (arith, both, length-take count leaves)) in
    let behind = other_leaves back (drop count leaves) (omega (arith, both, length-drop count leaves)) in
    ap (λ (xs : List LeafRecord). xs ++ leaves_of (with_leaves back (drop count leaves))) in_front ∙ ap (λ (ys : List LeafRecord). take count leaves ++ ys) behind ∙ take-append-drop count leaves

-- nodes of a partition are nodes of one with any leaves of that number
pub numbered_with : (shape : Partition) (nodes : List NodeRecord) (leaves other : List LeafRecord) → AreNumbered shape nodes leaves → length other ≡ length leaves → AreNumbered (with_leaves shape other) nodes other
numbered_with shape nodes leaves other are long =
    record {
      nodes_are = are.nodes_are ∙ sym (other_nodes shape other 0 0);
      leaves_are = sym (other_leaves shape other (long ∙ ap length are.leaves_are));
    }

same_child-same : (a b : Child) → same_child a b ≡ true → a ≡ b
same_child-same (Node n) (Node m) same = ap Node (eqb-true n m same)
same_child-same (Node n) (Leaf k) same = absurd cc
same_child-same (Leaf j) (Node m) same = absurd cc
same_child-same (Leaf j) (Leaf k) same = ap Leaf (eqb-true j k same)

same_child-own : (a : Child) → same_child a a ≡ true
same_child-own (Node n) = eq-eqb n n refl
same_child-own (Leaf k) = eq-eqb k k refl

same_node-same : (a b : NodeRecord) → same_node a b ≡ true → a ≡ b
same_node-same a b same =
    let first = and_parts (eqb a.plane b.plane) (same_child a.front b.front && same_child a.back b.back) same in
    let second = and_parts (same_child a.front b.front) (same_child a.back b.back) first.1 in
    let plane = eqb-true a.plane b.plane first.0 in
    let front = same_child-same a.front b.front second.0 in
    let back = same_child-same a.back b.back second.1 in
    λ i. record { plane = plane i; front = front i; back = back i }

same_node-own : (a : NodeRecord) → same_node a a ≡ true
same_node-own a = and_from (eqb a.plane a.plane) (same_child a.front a.front && same_child a.back a.back) (eq-eqb a.plane a.plane refl) (and_from (same_child a.front a.front) (same_child a.back a.back) (same_child-own a.front) (same_child-own a.back))

same_nodes-same : (xs ys : List NodeRecord) → same_nodes xs ys ≡ true → xs ≡ ys
same_nodes-same [] [] same = refl
same_nodes-same [] (y ∷ ys) same = absurd cc
same_nodes-same (x ∷ xs) [] same = absurd cc
same_nodes-same (x ∷ xs) (y ∷ ys) same =
    let both = and_parts (same_node x y) (same_nodes xs ys) same in
    let first = same_node-same x y both.0 in
    let rest = same_nodes-same xs ys both.1 in
    λ i. first i ∷ rest i

same_nodes-own : (xs : List NodeRecord) → same_nodes xs xs ≡ true
same_nodes-own [] = refl
same_nodes-own (x ∷ xs) = and_from (same_node x x) (same_nodes xs xs) (same_node-own x) (same_nodes-own xs)

-- nodes that pass the test are numbered, with any leaves, one more than nodes
pub numbered_shape : (nodes : List NodeRecord) (leaves : List LeafRecord) → pass_as_numbered nodes ≡ true → length leaves ≡ length nodes + 1 → (shape : Partition) × AreNumbered shape nodes leaves
unfolding pass_as_numbered
numbered_shape nodes leaves test long =
    let shape = partition_of nodes (some_leaves nodes) in
    let nodes_are = same_nodes-same nodes (nodes_of shape 0 0) test in
    let count = ap length nodes_are ∙ length-nodes_of shape 0 0 in
    (with_leaves shape leaves, numbered_with shape nodes (leaves_of shape) leaves (record { nodes_are = nodes_are; leaves_are = refl }) (omega (arith, long, count, one_leaf_more shape)))

pub numbered-partition : (nodes : List NodeRecord) (leaves : List LeafRecord) → pass_as_numbered nodes ≡ true → length leaves ≡ length nodes + 1 → AreNumbered (partition_of nodes leaves) nodes leaves
numbered-partition nodes leaves test long =
    let found = numbered_shape nodes leaves test long in
    subst (λ (shape : Partition). AreNumbered shape nodes leaves) (sym (partition_of-numbered found.0 nodes leaves found.1)) found.1

-- and numbered nodes pass the test
pub numbered-test : (nodes : List NodeRecord) (leaves : List LeafRecord) (shape : Partition) → AreNumbered shape nodes leaves → pass_as_numbered nodes ≡ true
unfolding pass_as_numbered
numbered-test nodes leaves shape are =
    let other = some_leaves nodes in
    let count = nodes-count shape nodes leaves are in
    let long : length other ≡ length leaves = length-replicate (length nodes + 1) _ ∙ omega (arith, count, one_leaf_more shape, ap length are.leaves_are) in
    let own = numbered_with shape nodes leaves other are long in
    let partition = partition_of-numbered (with_leaves shape other) nodes other own in
    let same : nodes ≡ nodes_of (partition_of nodes other) 0 0 = own.nodes_are ∙ ap (λ (s : Partition). nodes_of s 0 0) (sym partition) in
    subst (λ (xs : List NodeRecord). same_nodes nodes xs ≡ true) same (same_nodes-own nodes)

-- ---- what the test tells, and the partition

-- of nodes it can be told whether they are those of some partition
unfoldable pub numbered_or_not : (nodes : List NodeRecord) → (answer : Bool) × ((leaves : List LeafRecord) → length leaves ≡ length nodes + 1 → (IsTrue answer ↔ ((shape : Partition) × AreNumbered shape nodes leaves)))
numbered_or_not nodes = (pass_as_numbered nodes, λ leaves long. (λ test. numbered_shape nodes leaves test long, λ whole. numbered-test nodes leaves whole.0 whole.1))

-- numbered nodes and leaves are those of one partition
abbrev pub numbered_partition : (nodes : List NodeRecord) (leaves : List LeafRecord) → (shape : Partition) × ((other : Partition) → AreNumbered other nodes leaves → shape ≡ other)
numbered_partition nodes leaves = (partition_of nodes leaves, λ other are. partition_of-numbered other nodes leaves are)
