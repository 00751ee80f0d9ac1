-- Testing whether nodes are numbered: the children that are due stand on a stack, and two counters say what comes next.
use Rattle.std.proofs.Common.{◌≡◌, ◌<◌, ◌≤◌, ℕ, ◌+◌, false, List, [], ◌∷◌, ◌++◌, length, drop, reverse, get_or, ap, ◌∙◌, ◌↔◌, arith, add-one, length-drop, drop-cons}
use Rattle.qm_lists.proofs.Reversed.{reverse-push}
use Rattle.std.proofs.Math.Seq.{drop-length}
use Rattle.qm_partition.specs.declared.node.Node.{Node as NodeRecord}
use Rattle.qm_partition.specs.declared.node.Leaf.{Leaf as LeafRecord}
use Rattle.qm_partition.specs.declared.node.Child.{Child}
use Rattle.qm_partition.specs.declared.node.Child.TheVariants.{Node, Leaf}
use Rattle.qm_partition.specs.Partition.{Partition}
use Rattle.qm_partition.specs.Numbering.{AreNumbered}
use Rattle.qm_partition.specs.inner.RootChild.{root_child}
use Rattle.qm_partition.proofs.Forests.{Fits, fits_leaf, leaf_due, leaf_taken, fits_node, node_due, node_taken, fits_nothing, nothing_due, whole_fits, whole_of_fit}
use Rattle.qm_contents.specs.declared.contents.Contents.TheVariants.{Empty}

-- what is due fits what is left if and only if the whole is numbered
pub record IsWalked (nodes : List NodeRecord) (leaves : ℕ) (due : List Child) (n k : ℕ) : Type 0 where
  pub nodes_left : n ≤ length nodes
  pub leaves_left : k ≤ leaves
  pub same : (all : List LeafRecord) → length all ≡ leaves → (Fits (reverse due) n k (drop n nodes) (drop k all) ↔ Fits (root_child nodes ∷ []) 0 0 nodes all)

module _ (nodes : List NodeRecord) (leaves : ℕ) where
  pub walk_begins : IsWalked nodes leaves (root_child nodes ∷ []) 0 0
  walk_begins = record { nodes_left = omega arith; leaves_left = omega arith; same = λ all long. (λ fit. fit, λ fit. fit) }

  module _ (due : List Child) (n k : ℕ) where
    pub walk_leaf : IsWalked nodes leaves (due ++ Leaf k ∷ []) n k → k < leaves → IsWalked nodes leaves due n (k + 1)
    walk_leaf walked within =
        record {
          nodes_left = walked.nodes_left;
          leaves_left = omega arith;
          same = λ all long.
              let some : LeafRecord = record { contents = Empty; filled = false } in
              let found = get_or all k some in
              let rest : drop k all ≡ found ∷ drop (k + 1) all = rw add-one (drop-cons all k some (omega arith)) in
              let before = rw (reverse-push due (Leaf k), rest) at (walked.same all long) in (
                λ fit. before.0 (fits_leaf (reverse due) n k (drop n nodes) found (drop (k + 1) all) fit),
                λ whole. leaf_taken (reverse due) n k (drop n nodes) found (drop (k + 1) all) (before.1 whole),
              );
        }

    -- a leaf of a numbered whole that is due is the next one
    pub leaf_is_next : (j : ℕ) → IsWalked nodes leaves (due ++ Leaf j ∷ []) n k → (all : List LeafRecord) → length all ≡ leaves → ((shape : Partition) × AreNumbered shape nodes all) → (j ≡ k) × (j < leaves)
    leaf_is_next j walked all long whole =
        let fit = (walked.same all long).1 (whole_fits nodes all whole.0 whole.1) in
        let next = leaf_due (reverse due) n k (drop n nodes) j (drop k all) (rw (reverse-push due (Leaf j)) at fit) in
        (next.0, omega (arith, next.0, next.1, length-drop k all))

    pub walk_node : (some : NodeRecord) → IsWalked nodes leaves (due ++ Node n ∷ []) n k → n < length nodes → IsWalked nodes leaves ((due ++ (get_or nodes n some).back ∷ []) ++ (get_or nodes n some).front ∷ []) (n + 1) k
    walk_node some walked within =
        let here = get_or nodes n some in
        record {
          nodes_left = omega arith;
          leaves_left = walked.leaves_left;
          same = λ all long.
              let rest : drop n nodes ≡ here ∷ drop (n + 1) nodes = rw add-one (drop-cons nodes n some within) in
              let before = rw (reverse-push due (Node n), rest) at (walked.same all long) in
              let pushed : reverse ((due ++ here.back ∷ []) ++ here.front ∷ []) ≡ here.front ∷ (here.back ∷ reverse due) =
              reverse-push (due ++ here.back ∷ []) here.front ∙ ap (λ (rest : List Child). here.front ∷ rest) (reverse-push due here.back) in
              rw pushed (
                λ fit. before.0 (fits_node (reverse due) n k (drop k all) here (drop (n + 1) nodes) fit),
                λ whole. node_taken (reverse due) n k (drop k all) here (drop (n + 1) nodes) (before.1 whole),
              );
        }

    -- a node of a numbered whole that is due is the next one
    pub node_is_next : (j : ℕ) → IsWalked nodes leaves (due ++ Node j ∷ []) n k → (all : List LeafRecord) → length all ≡ leaves → ((shape : Partition) × AreNumbered shape nodes all) → (j ≡ n) × (j < length nodes)
    node_is_next j walked all long whole =
        let fit = (walked.same all long).1 (whole_fits nodes all whole.0 whole.1) in
        let next = node_due (reverse due) n k (drop k all) j (drop n nodes) (rw (reverse-push due (Node j)) at fit) in
        (next.0, omega (arith, next.0, next.1, length-drop n nodes))

  -- where nothing is due, all nodes and leaves of a numbered whole have come
  pub all_have_come : (n k : ℕ) → IsWalked nodes leaves [] n k → (all : List LeafRecord) → length all ≡ leaves → ((shape : Partition) × AreNumbered shape nodes all) → (n ≡ length nodes) × (k ≡ leaves)
  all_have_come n k walked all long whole =
      let left = nothing_due n k (drop n nodes) (drop k all) ((walked.same all long).1 (whole_fits nodes all whole.0 whole.1)) in
      (omega (arith, walked.nodes_left, length-drop n nodes, ap length left.0), omega (arith, walked.leaves_left, length-drop k all, ap length left.1))

  -- and where all have come, the whole is numbered
  pub whole_is_numbered : (n k : ℕ) → IsWalked nodes leaves [] n k → n ≡ length nodes → k ≡ leaves → (all : List LeafRecord) → length all ≡ leaves → (shape : Partition) × AreNumbered shape nodes all
  whole_is_numbered n k walked no_node no_leaf all long =
      let none : drop n nodes ≡ [] = rw no_node (drop-length nodes) in
      let none_left : drop k all ≡ [] = rw (no_leaf, ← long) (drop-length all) in
      whole_of_fit nodes all ((walked.same all long).0 (rw (none, none_left) (fits_nothing n k)))
