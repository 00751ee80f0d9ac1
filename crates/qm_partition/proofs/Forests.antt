-- Partitions one behind another, numbered on through all of them: which children are due, and which nodes and leaves and
-- visits are theirs.
use Rattle.std.proofs.Common.{◌≡◌, ◌<◌, ℕ, ◌+◌, List, [], ◌∷◌, ◌++◌, length, Some, refl, sym, ap, ap₂, subst, ◌∙◌, arith}
use Rattle.std.proofs.lemmas.List.{append_assoc, append-nil}
use Rattle.qm_partition.specs.declared.node.Node.{Node as NodeRecord}
use Rattle.qm_partition.specs.declared.node.Leaf.{Leaf as LeafRecord}
use Rattle.qm_partition.specs.declared.node.Child.{Child}
use Rattle.qm_partition.specs.declared.node.Child.TheVariants.{Node, Leaf}
use Rattle.qm_partition.specs.declared.visit.Visit.{Visit}
use Rattle.qm_partition.specs.declared.visit.Visit.TheVariants as visit
use Rattle.qm_partition.specs.Partition.{Partition, leaf, node}
use Rattle.qm_partition.specs.Counting.{leaves_of}
use Rattle.qm_partition.specs.Numbering.{nodes_after, leaves_after, child_of, nodes_of, AreNumbered}
use Rattle.qm_partition.specs.Visits.{visits}
use Rattle.qm_partition.specs.inner.Grown.{grown_by}
use Rattle.qm_partition.specs.inner.RootChild.{root_child}
use Rattle.qm_partition.proofs.PlacedParts.{top_node, top_node_is}

-- their children, where their nodes are numbered from n on and their leaves from k on
abbrev pub forest_children : List Partition → ℕ → ℕ → List Child
forest_children [] n k = []
forest_children (shape ∷ forest) n k = child_of shape n k ∷ forest_children forest (nodes_after shape n) (leaves_after shape k)

abbrev pub forest_nodes : List Partition → ℕ → ℕ → List NodeRecord
forest_nodes [] n k = []
forest_nodes (shape ∷ forest) n k = nodes_of shape n k ++ forest_nodes forest (nodes_after shape n) (leaves_after shape k)

abbrev pub forest_leaves : List Partition → List LeafRecord
forest_leaves [] = []
forest_leaves (shape ∷ forest) = leaves_of shape ++ forest_leaves forest

abbrev pub forest_visits : List Partition → List Visit
forest_visits [] = []
forest_visits (shape ∷ forest) = visits shape ++ forest_visits forest

-- partitions that have these children, nodes and leaves
pub record Fits (due : List Child) (n k : ℕ) (nodes : List NodeRecord) (leaves : List LeafRecord) : Type 0 where
  pub forest : List Partition
  pub children_are : due ≡ forest_children forest n k
  pub nodes_are : nodes ≡ forest_nodes forest n k
  pub leaves_are : leaves ≡ forest_leaves forest

-- ---- a leaf is due

module _ (due : List Child) (n k : ℕ) (nodes : List NodeRecord) where
  pub fits_leaf : (found : LeafRecord) (leaves : List LeafRecord) → Fits due n (k + 1) nodes leaves → Fits (Leaf k ∷ due) n k nodes (found ∷ leaves)
  fits_leaf found leaves fit =
      record {
        forest = leaf found ∷ fit.forest;
        children_are = ap (λ (rest : List Child). Leaf k ∷ rest) fit.children_are;
        nodes_are = fit.nodes_are;
        leaves_are = ap (λ (rest : List LeafRecord). found ∷ rest) fit.leaves_are;
      }

  -- what fits where a leaf is due begins with that leaf
  record BeginsWithLeaf (j : ℕ) (leaves : List LeafRecord) : Type 0 where
    found : LeafRecord
    rest : List LeafRecord
    number_is : j ≡ k
    leaves_are : leaves ≡ found ∷ rest
    fit : Fits due n (k + 1) nodes rest

  begins_with_leaf : (forest : List Partition) (j : ℕ) (leaves : List LeafRecord) → Leaf j ∷ due ≡ forest_children forest n k → nodes ≡ forest_nodes forest n k → leaves ≡ forest_leaves forest → BeginsWithLeaf j leaves
  begins_with_leaf [] j leaves children nodes_are leaves_are = absurd cc
  begins_with_leaf (leaf found ∷ forest) j leaves children nodes_are leaves_are =
      record {
        found = found;
        rest = forest_leaves forest;
        number_is = cc;
        leaves_are = leaves_are;
        fit = record { forest = forest; children_are = cc; nodes_are = nodes_are; leaves_are = refl };
      }
  begins_with_leaf (node p front back ∷ forest) j leaves children nodes_are leaves_are =
      absurd (let e : Leaf j ≡ Node n = cc in cc)

  -- and so the leaf's number is the counter's, and it is there
  pub leaf_due : (j : ℕ) (leaves : List LeafRecord) → Fits (Leaf j ∷ due) n k nodes leaves → (j ≡ k) × (0 < length leaves)
  leaf_due j leaves fit =
      let first = begins_with_leaf fit.forest j leaves fit.children_are fit.nodes_are fit.leaves_are in
      (first.number_is, rw first.leaves_are (omega arith))

  pub leaf_taken : (found : LeafRecord) (leaves : List LeafRecord) → Fits (Leaf k ∷ due) n k nodes (found ∷ leaves) → Fits due n (k + 1) nodes leaves
  leaf_taken found leaves fit =
      let first = begins_with_leaf fit.forest k (found ∷ leaves) fit.children_are fit.nodes_are fit.leaves_are in
      let same : first.rest ≡ leaves = let e : found ∷ leaves ≡ first.found ∷ first.rest = first.leaves_are in cc in
      subst (λ (rest : List LeafRecord). Fits due n (k + 1) nodes rest) same first.fit

-- ---- a node is due

module _ (due : List Child) (n k : ℕ) (leaves : List LeafRecord) where
  module _ (here : NodeRecord) (nodes : List NodeRecord) where
    -- partitions with a node in front of them, which takes the first two as its sides
    pub record WithNode (forest : List Partition) : Type 0 where
      pub fit : Fits (Node n ∷ due) n k (here ∷ nodes) leaves
      pub grown_is : grown_by (visit.Node here.plane) (Some forest) ≡ Some fit.forest

    of_two : (forest : List Partition) → here.front ∷ here.back ∷ due ≡ forest_children forest (n + 1) k → nodes ≡ forest_nodes forest (n + 1) k → leaves ≡ forest_leaves forest → WithNode forest
    of_two [] children nodes_are leaves_are = absurd cc
    of_two (front ∷ []) children nodes_are leaves_are = absurd (let e : here.back ∷ due ≡ [] = cc in cc)
    of_two (front ∷ (back ∷ rest)) children nodes_are leaves_are =
        let n_back = nodes_after front (n + 1) in
        let k_back = leaves_after front k in
        let rest_nodes = forest_nodes rest (nodes_after back n_back) (leaves_after back k_back) in
        let front_is : here.front ≡ child_of front (n + 1) k = cc in
        let back_is : here.back ≡ child_of back n_back k_back = cc in
        let due_is : due ≡ forest_children rest (nodes_after back n_back) (leaves_after back k_back) = cc in
        let nodes_so : nodes ≡ (nodes_of front (n + 1) k ++ nodes_of back n_back k_back) ++ rest_nodes =
        nodes_are ∙ sym (append_assoc (nodes_of front (n + 1) k) (nodes_of back n_back k_back) rest_nodes) in
        record {
          fit = record {
            forest = node here.plane front back ∷ rest;
            children_are = ap (λ (all : List Child). Node n ∷ all) due_is;
            nodes_are = ap₂ (λ (m : NodeRecord) (all : List NodeRecord). m ∷ all) (top_node_is here front back n k front_is back_is) nodes_so;
            leaves_are = leaves_are ∙ sym (append_assoc (leaves_of front) (leaves_of back) (forest_leaves rest));
          };
          grown_is = refl;
        }

    pub with_node : (fit : Fits (here.front ∷ here.back ∷ due) (n + 1) k nodes leaves) → WithNode fit.forest
    with_node fit = of_two fit.forest fit.children_are fit.nodes_are fit.leaves_are

    pub fits_node : Fits (here.front ∷ here.back ∷ due) (n + 1) k nodes leaves → Fits (Node n ∷ due) n k (here ∷ nodes) leaves
    fits_node fit = (with_node fit).fit

  -- what fits where a node is due begins with that node
  record BeginsWithNode (j : ℕ) (nodes : List NodeRecord) : Type 0 where
    here : NodeRecord
    rest : List NodeRecord
    number_is : j ≡ n
    nodes_are : nodes ≡ here ∷ rest
    fit : Fits (here.front ∷ here.back ∷ due) (n + 1) k rest leaves

  begins_with_node : (forest : List Partition) (j : ℕ) (nodes : List NodeRecord) → Node j ∷ due ≡ forest_children forest n k → nodes ≡ forest_nodes forest n k → leaves ≡ forest_leaves forest → BeginsWithNode j nodes
  begins_with_node [] j nodes children nodes_are leaves_are = absurd cc
  begins_with_node (leaf found ∷ forest) j nodes children nodes_are leaves_are =
      absurd (let e : Node j ≡ Leaf k = cc in cc)
  begins_with_node (node p front back ∷ forest) j nodes children nodes_are leaves_are =
      let n_back = nodes_after front (n + 1) in
      let k_back = leaves_after front k in
      let rest_nodes = forest_nodes forest (nodes_after back n_back) (leaves_after back k_back) in
      let due_is : due ≡ forest_children forest (nodes_after back n_back) (leaves_after back k_back) = cc in
      record {
        here = top_node p front back n k;
        rest = nodes_of front (n + 1) k ++ (nodes_of back n_back k_back ++ rest_nodes);
        number_is = cc;
        nodes_are = nodes_are ∙ ap (λ (all : List NodeRecord). top_node p front back n k ∷ all) (append_assoc (nodes_of front (n + 1) k) (nodes_of back n_back k_back) rest_nodes);
        fit = record {
          forest = front ∷ (back ∷ forest);
          children_are = ap (λ (all : List Child). child_of front (n + 1) k ∷ (child_of back n_back k_back ∷ all)) due_is;
          nodes_are = refl;
          leaves_are = leaves_are ∙ append_assoc (leaves_of front) (leaves_of back) (forest_leaves forest);
        };
      }

  -- and so the node's number is the counter's, and it is there
  pub node_due : (j : ℕ) (nodes : List NodeRecord) → Fits (Node j ∷ due) n k nodes leaves → (j ≡ n) × (0 < length nodes)
  node_due j nodes fit =
      let first = begins_with_node fit.forest j nodes fit.children_are fit.nodes_are fit.leaves_are in
      (first.number_is, rw first.nodes_are (omega arith))

  pub node_taken : (here : NodeRecord) (nodes : List NodeRecord) → Fits (Node n ∷ due) n k (here ∷ nodes) leaves → Fits (here.front ∷ here.back ∷ due) (n + 1) k nodes leaves
  node_taken here nodes fit =
      let first = begins_with_node fit.forest n (here ∷ nodes) fit.children_are fit.nodes_are fit.leaves_are in
      let both : here ∷ nodes ≡ first.here ∷ first.rest = first.nodes_are in
      let same_here : first.here ≡ here = cc in
      let same_rest : first.rest ≡ nodes = cc in
      subst (λ (rest : List NodeRecord). Fits (here.front ∷ here.back ∷ due) (n + 1) k rest leaves) same_rest
      (subst (λ (m : NodeRecord). Fits (m.front ∷ m.back ∷ due) (n + 1) k first.rest leaves) same_here first.fit)

-- ---- nothing is due

pub fits_nothing : (n k : ℕ) → Fits [] n k [] []
fits_nothing n k = record { forest = []; children_are = refl; nodes_are = refl; leaves_are = refl }

nothing_left : (forest : List Partition) (n k : ℕ) (nodes : List NodeRecord) (leaves : List LeafRecord) → [] ≡ forest_children forest n k → nodes ≡ forest_nodes forest n k → leaves ≡ forest_leaves forest → (nodes ≡ []) × (leaves ≡ [])
nothing_left [] n k nodes leaves children nodes_are leaves_are = (nodes_are, leaves_are)
nothing_left (shape ∷ forest) n k nodes leaves children nodes_are leaves_are = absurd cc

pub nothing_due : (n k : ℕ) (nodes : List NodeRecord) (leaves : List LeafRecord) → Fits [] n k nodes leaves → (nodes ≡ []) × (leaves ≡ [])
nothing_due n k nodes leaves fit = nothing_left fit.forest n k nodes leaves fit.children_are fit.nodes_are fit.leaves_are

-- ---- the whole

root_child_of : (shape : Partition) → root_child (nodes_of shape 0 0) ≡ child_of shape 0 0
root_child_of (leaf found) = refl
root_child_of (node p front back) = refl

pub whole_fits : (nodes : List NodeRecord) (leaves : List LeafRecord) (shape : Partition) → AreNumbered shape nodes leaves → Fits (root_child nodes ∷ []) 0 0 nodes leaves
whole_fits nodes leaves shape are =
    record {
      forest = shape ∷ [];
      children_are = ap (λ (child : Child). child ∷ []) (ap root_child are.nodes_are ∙ root_child_of shape);
      nodes_are = are.nodes_are ∙ sym (append-nil (nodes_of shape 0 0));
      leaves_are = are.leaves_are ∙ sym (append-nil (leaves_of shape));
    }

of_one : (forest : List Partition) (nodes : List NodeRecord) (leaves : List LeafRecord) (child : Child) → child ∷ [] ≡ forest_children forest 0 0 → nodes ≡ forest_nodes forest 0 0 → leaves ≡ forest_leaves forest → (shape : Partition) × AreNumbered shape nodes leaves
of_one [] nodes leaves child children nodes_are leaves_are = absurd cc
of_one (shape ∷ []) nodes leaves child children nodes_are leaves_are =
    (shape, record { nodes_are = nodes_are ∙ append-nil (nodes_of shape 0 0); leaves_are = leaves_are ∙ append-nil (leaves_of shape) })
of_one (shape ∷ (other ∷ forest)) nodes leaves child children nodes_are leaves_are =
    absurd (let none : [] ≡ forest_children (other ∷ forest) (nodes_after shape 0) (leaves_after shape 0) = cc in cc)

pub whole_of_fit : (nodes : List NodeRecord) (leaves : List LeafRecord) → Fits (root_child nodes ∷ []) 0 0 nodes leaves → (shape : Partition) × AreNumbered shape nodes leaves
whole_of_fit nodes leaves fit = of_one fit.forest nodes leaves (root_child nodes) fit.children_are fit.nodes_are fit.leaves_are
