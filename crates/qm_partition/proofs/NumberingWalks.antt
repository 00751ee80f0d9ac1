-- Numbering the visits of a walk from the last one to the first: the children that wait for their node stand on a stack, and
-- two counters go down.
use Rattle.std.proofs.Common.{◌≡◌, ◌<◌, ◌≤◌, ℕ, suc, ◌+◌, ◌-◌, ◌*◌, List, [], ◌∷◌, ◌++◌, length, take, drop, reverse, get_or, Option, Some, None, refl, sym, ap, subst, ◌∙◌, arith, add-one, drop-cons}
use Rattle.std.proofs.lemmas.List.{append_assoc, append-nil, reverse-append, take-append-drop, length-reverse, drop_all, take_all}
use Rattle.std.proofs.Math.Seq.{take-suc}
use Rattle.qm_lists.proofs.Reversed.{reverse-push, reverse-cons}
use Rattle.qm_partition.specs.declared.node.Node.{Node as NodeRecord}
use Rattle.qm_partition.specs.declared.node.Leaf.{Leaf as LeafRecord}
use Rattle.qm_partition.specs.declared.node.Child.{Child}
use Rattle.qm_partition.specs.declared.node.Child.TheVariants.{Node, Leaf}
use Rattle.qm_partition.specs.declared.visit.Visit.{Visit}
use Rattle.qm_partition.specs.declared.visit.Visit.TheVariants as visit
use Rattle.qm_partition.specs.Partition.{Partition, leaf, node}
use Rattle.qm_partition.specs.Counting.{leaves_of, node_count, leaf_count}
use Rattle.qm_partition.specs.Numbering.{nodes_after, leaves_after, nodes_of, AreNumbered}
use Rattle.qm_partition.specs.Visits.{visits}
use Rattle.qm_partition.specs.inner.Grown.{grown_by, grown_from, grown_from-append, grown_from-visits}
use Rattle.qm_partition.proofs.Counts.{leaf_count-node, one_leaf_more}
use Rattle.qm_partition.proofs.Forests.{forest_children, forest_nodes, forest_leaves, Fits, with_node}

-- ---- how many nodes and leaves are visited

abbrev pub node_visits : List Visit → ℕ
node_visits [] = 0
node_visits (visit.Node n ∷ walk) = suc (node_visits walk)
node_visits (visit.Leaf found ∷ walk) = node_visits walk

abbrev pub leaf_visits : List Visit → ℕ
leaf_visits [] = 0
leaf_visits (visit.Node n ∷ walk) = leaf_visits walk
leaf_visits (visit.Leaf found ∷ walk) = suc (leaf_visits walk)

node_visits-append : (walk walk' : List Visit) → node_visits (walk ++ walk') ≡ node_visits walk + node_visits walk'
node_visits-append [] walk' = omega arith
node_visits-append (visit.Node n ∷ walk) walk' = omega (arith, node_visits-append walk walk')
node_visits-append (visit.Leaf found ∷ walk) walk' = node_visits-append walk walk'

leaf_visits-append : (walk walk' : List Visit) → leaf_visits (walk ++ walk') ≡ leaf_visits walk + leaf_visits walk'
leaf_visits-append [] walk' = omega arith
leaf_visits-append (visit.Node n ∷ walk) walk' = leaf_visits-append walk walk'
leaf_visits-append (visit.Leaf found ∷ walk) walk' = omega (arith, leaf_visits-append walk walk')

node_visits-reverse : (walk : List Visit) → node_visits (reverse walk) ≡ node_visits walk
node_visits-reverse [] = refl
node_visits-reverse (visit.Node n ∷ walk) =
    rw (reverse-cons (visit.Node n) walk) (omega (arith, node_visits-append (reverse walk) (visit.Node n ∷ []), node_visits-reverse walk))
node_visits-reverse (visit.Leaf found ∷ walk) =
    rw (reverse-cons (visit.Leaf found) walk) (omega (arith, node_visits-append (reverse walk) (visit.Leaf found ∷ []), node_visits-reverse walk))

leaf_visits-reverse : (walk : List Visit) → leaf_visits (reverse walk) ≡ leaf_visits walk
leaf_visits-reverse [] = refl
leaf_visits-reverse (visit.Node n ∷ walk) =
    rw (reverse-cons (visit.Node n) walk) (omega (arith, leaf_visits-append (reverse walk) (visit.Node n ∷ []), leaf_visits-reverse walk))
leaf_visits-reverse (visit.Leaf found ∷ walk) =
    rw (reverse-cons (visit.Leaf found) walk) (omega (arith, leaf_visits-append (reverse walk) (visit.Leaf found ∷ []), leaf_visits-reverse walk))

node_visits-visits : (shape : Partition) → node_visits (visits shape) ≡ node_count shape
node_visits-visits (leaf found) = refl
node_visits-visits (node n front back) = omega (arith, node_visits-append (visits front) (visits back), node_visits-visits front, node_visits-visits back)

leaf_visits-visits : (shape : Partition) → leaf_visits (visits shape) ≡ leaf_count shape
leaf_visits-visits (leaf found) = refl
leaf_visits-visits (node n front back) = omega (arith, leaf_visits-append (visits front) (visits back), leaf_visits-visits front, leaf_visits-visits back, leaf_count-node n front back)

length-visits : (walk : List Visit) → length walk ≡ node_visits walk + leaf_visits walk
length-visits [] = refl
length-visits (visit.Node n ∷ walk) = omega (arith, length-visits walk)
length-visits (visit.Leaf found ∷ walk) = omega (arith, length-visits walk)

-- how many nodes and leaves a walk meets that is given backwards, by its length
pub record Counted (walk : List Visit) : Type 0 where
  pub length_is : length walk ≡ 2 * node_visits walk + 1
  pub leaves_are : leaf_visits walk ≡ node_visits walk + 1

pub counted : (walk : List Visit) (shape : Partition) → reverse walk ≡ visits shape → Counted walk
counted walk shape is =
    let nodes : node_visits walk ≡ node_count shape = sym (node_visits-reverse walk) ∙ ap node_visits is ∙ node_visits-visits shape in
    let leaves : leaf_visits walk ≡ leaf_count shape = sym (leaf_visits-reverse walk) ∙ ap leaf_visits is ∙ leaf_visits-visits shape in
    record {
      length_is = omega (arith, length-visits walk, nodes, leaves, one_leaf_more shape);
      leaves_are = omega (arith, nodes, leaves, one_leaf_more shape);
    }

-- ---- the walk so far

-- the partitions of the visits so far, whose children wait, with their nodes and leaves
pub record IsNumberedSoFar (done : List Visit) (waiting : List Child) (nodes : List NodeRecord) (leaves : List LeafRecord) (n k : ℕ) : Type 0 where
  pub fit : Fits (reverse waiting) n k (reverse nodes) (reverse leaves)
  pub grown_is : grown_from done (Some []) ≡ Some fit.forest

pub none_so_far : (n k : ℕ) → IsNumberedSoFar [] [] [] [] n k
none_so_far n k = record { fit = record { forest = []; children_are = refl; nodes_are = refl; leaves_are = refl }; grown_is = refl }

module _ (done : List Visit) (waiting : List Child) (nodes : List NodeRecord) (leaves : List LeafRecord) (n k : ℕ) where
  pub leaf_so_far : (found : LeafRecord) → IsNumberedSoFar done waiting nodes leaves n (k + 1) → IsNumberedSoFar (visit.Leaf found ∷ done) (waiting ++ Leaf k ∷ []) nodes (leaves ++ found ∷ []) n k
  leaf_so_far found so_far =
      record {
        fit = record {
          forest = leaf found ∷ so_far.fit.forest;
          children_are = reverse-push waiting (Leaf k) ∙ ap (λ (rest : List Child). Leaf k ∷ rest) so_far.fit.children_are;
          nodes_are = so_far.fit.nodes_are;
          leaves_are = reverse-push leaves found ∙ ap (λ (rest : List LeafRecord). found ∷ rest) so_far.fit.leaves_are;
        };
        grown_is = ap (grown_by (visit.Leaf found)) so_far.grown_is;
      }

  pub node_so_far : (here : NodeRecord) → IsNumberedSoFar done ((waiting ++ here.back ∷ []) ++ here.front ∷ []) nodes leaves (n + 1) k → IsNumberedSoFar (visit.Node here.plane ∷ done) (waiting ++ Node n ∷ []) (nodes ++ here ∷ []) leaves n k
  node_so_far here so_far =
      let before = so_far.fit in
      let stack = reverse-push (waiting ++ here.back ∷ []) here.front ∙ ap (λ (all : List Child). here.front ∷ all) (reverse-push waiting here.back) in
      let two : Fits (here.front ∷ here.back ∷ reverse waiting) (n + 1) k (reverse nodes) (reverse leaves) =
      record { forest = before.forest; children_are = sym stack ∙ before.children_are; nodes_are = before.nodes_are; leaves_are = before.leaves_are } in
      let after = with_node (reverse waiting) n k (reverse leaves) here (reverse nodes) two in
      record {
        fit = record {
          forest = after.fit.forest;
          children_are = reverse-push waiting (Node n) ∙ after.fit.children_are;
          nodes_are = reverse-push nodes here ∙ after.fit.nodes_are;
          leaves_are = after.fit.leaves_are;
        };
        grown_is = ap (grown_by (visit.Node here.plane)) so_far.grown_is ∙ after.grown_is;
      }

-- where all is visited, the nodes and leaves are those of the partition
all_of_one : (shape : Partition) (forest : List Partition) (nodes : List NodeRecord) (leaves : List LeafRecord) → Some forest ≡ Some (shape ∷ []) → reverse nodes ≡ forest_nodes forest 0 0 → reverse leaves ≡ forest_leaves forest → AreNumbered shape (reverse nodes) (reverse leaves)
all_of_one shape forest nodes leaves one nodes_are leaves_are =
    let only : forest ≡ shape ∷ [] = cc in
    record {
      nodes_are = nodes_are ∙ ap (λ (forest : List Partition). forest_nodes forest 0 0) only ∙ append-nil (nodes_of shape 0 0);
      leaves_are = leaves_are ∙ ap forest_leaves only ∙ append-nil (leaves_of shape);
    }

pub all_so_far : (shape : Partition) (waiting : List Child) (nodes : List NodeRecord) (leaves : List LeafRecord) → IsNumberedSoFar (visits shape) waiting nodes leaves 0 0 → AreNumbered shape (reverse nodes) (reverse leaves)
all_so_far shape waiting nodes leaves so_far =
    all_of_one shape so_far.fit.forest nodes leaves (sym so_far.grown_is ∙ grown_from-visits shape []) so_far.fit.nodes_are so_far.fit.leaves_are

-- ---- place by place

grown_by-none : (visit : Visit) → grown_by visit None ≡ None
grown_by-none (visit.Node n) = refl
grown_by-none (visit.Leaf found) = refl

grown_from-none : (walk : List Visit) → grown_from walk None ≡ None
grown_from-none [] = refl
grown_from-none (visit ∷ walk) = ap (grown_by visit) (grown_from-none walk) ∙ grown_by-none visit

-- a node finds two partitions at least
two_are_grown : (left : List Visit) (p : ℕ) (forest : List Partition) (shape : Partition) → grown_from left (grown_by (visit.Node p) (Some forest)) ≡ Some (shape ∷ []) → 2 ≤ length forest
two_are_grown left p [] shape whole = absurd (let e : None ≡ Some (shape ∷ []) = sym (grown_from-none left) ∙ whole in cc)
two_are_grown left p (only ∷ []) shape whole = absurd (let e : None ≡ Some (shape ∷ []) = sym (grown_from-none left) ∙ whole in cc)
two_are_grown left p (front ∷ (back ∷ forest)) shape whole = omega arith

length-forest_children : (forest : List Partition) (n k : ℕ) → length (forest_children forest n k) ≡ length forest
length-forest_children [] n k = refl
length-forest_children (shape ∷ forest) n k = ap suc (length-forest_children forest (nodes_after shape n) (leaves_after shape k))

-- a walk that is given backwards, of which so many visits have come
pub record IsNumbering (walk : List Visit) (i : ℕ) (waiting : List Child) (nodes : List NodeRecord) (leaves : List LeafRecord) (n k : ℕ) : Type 0 where
  pub so_far : IsNumberedSoFar (reverse (take i walk)) waiting nodes leaves n k
  pub nodes_left : n ≡ node_visits (drop i walk)
  pub leaves_left : k ≡ leaf_visits (drop i walk)

pub numbering_begins : (walk : List Visit) (n k : ℕ) → n ≡ node_visits walk → k ≡ leaf_visits walk → IsNumbering walk 0 [] [] [] n k
numbering_begins walk n k nodes leaves = record { so_far = none_so_far n k; nodes_left = nodes; leaves_left = leaves }

module _ (walk : List Visit) (i : ℕ) (some : Visit) (within : i < length walk) where
  abbrev here : Visit
  here = get_or walk i some

  rest_is : drop i walk ≡ here ∷ drop (i + 1) walk
  rest_is = rw add-one (drop-cons walk i some within)

  done_is : reverse (take (i + 1) walk) ≡ here ∷ reverse (take i walk)
  done_is = rw add-one (ap reverse (take-suc walk i some within) ∙ reverse-push (take i walk) here)

  all_is : reverse walk ≡ reverse (drop (i + 1) walk) ++ (here ∷ reverse (take i walk))
  all_is =
      ap reverse (sym (take-append-drop i walk) ∙ ap (λ (rest : List Visit). take i walk ++ rest) rest_is)
      ∙ reverse-append (take i walk) (here ∷ drop (i + 1) walk)
      ∙ ap (λ (rest : List Visit). rest ++ reverse (take i walk)) (reverse-cons here (drop (i + 1) walk))
      ∙ append_assoc (reverse (drop (i + 1) walk)) (here ∷ []) (reverse (take i walk))

  module _ (waiting : List Child) (nodes : List NodeRecord) (leaves : List LeafRecord) (n k : ℕ) where
    pub numbering_leaf : (found : LeafRecord) → IsNumbering walk i waiting nodes leaves n k → here ≡ visit.Leaf found → IsNumbering walk (i + 1) (waiting ++ Leaf (k - 1) ∷ []) nodes (leaves ++ found ∷ []) n (k - 1)
    numbering_leaf found numbering is =
        let rest = rest_is ∙ ap (λ (visit : Visit). visit ∷ drop (i + 1) walk) is in
        let left = numbering.leaves_left ∙ ap leaf_visits rest in
        let same : k ≡ (k - 1) + 1 = omega (arith, left) in
        let before = subst (λ (j : ℕ). IsNumberedSoFar (reverse (take i walk)) waiting nodes leaves n j) same numbering.so_far in
        record {
          so_far = rw (done_is, is) (leaf_so_far (reverse (take i walk)) waiting nodes leaves n (k - 1) found before);
          nodes_left = numbering.nodes_left ∙ ap node_visits rest;
          leaves_left = omega (arith, left);
        }

    pub two_wait : (p : ℕ) (shape : Partition) → IsNumbering walk i waiting nodes leaves n k → here ≡ visit.Node p → reverse walk ≡ visits shape → 2 ≤ length waiting
    two_wait p shape numbering is whole =
        let so_far = numbering.so_far in
        let left = reverse (drop (i + 1) walk) in
        let done = reverse (take i walk) in
        let parts : reverse walk ≡ left ++ (visit.Node p ∷ done) = all_is ∙ ap (λ (visit : Visit). left ++ (visit ∷ done)) is in
        let grown : grown_from left (grown_by (visit.Node p) (Some so_far.fit.forest)) ≡ Some (shape ∷ []) =
        ap (λ (forest : Option (List Partition)). grown_from left (grown_by (visit.Node p) forest)) (sym so_far.grown_is)
        ∙ sym (grown_from-append left (visit.Node p ∷ done) (Some []))
        ∙ ap (λ (all : List Visit). grown_from all (Some [])) (sym parts ∙ whole)
        ∙ grown_from-visits shape [] in
        omega (arith, two_are_grown left p so_far.fit.forest shape grown, length-forest_children so_far.fit.forest n k, ap length so_far.fit.children_are, length-reverse waiting)

  module _ (waiting : List Child) (nodes : List NodeRecord) (leaves : List LeafRecord) (n k : ℕ) where
    pub numbering_node : (p : ℕ) (front back : Child) → IsNumbering walk i ((waiting ++ back ∷ []) ++ front ∷ []) nodes leaves n k → here ≡ visit.Node p → IsNumbering walk (i + 1) (waiting ++ Node (n - 1) ∷ []) (nodes ++ record { plane = p; front = front; back = back } ∷ []) leaves (n - 1) k
    numbering_node p front back numbering is =
        let rest = rest_is ∙ ap (λ (visit : Visit). visit ∷ drop (i + 1) walk) is in
        let left = numbering.nodes_left ∙ ap node_visits rest in
        let same : n ≡ (n - 1) + 1 = omega (arith, left) in
        let before = subst (λ (j : ℕ). IsNumberedSoFar (reverse (take i walk)) ((waiting ++ back ∷ []) ++ front ∷ []) nodes leaves j k) same numbering.so_far in
        record {
          so_far = rw (done_is, is) (node_so_far (reverse (take i walk)) waiting nodes leaves (n - 1) k (record { plane = p; front = front; back = back }) before);
          nodes_left = omega (arith, left);
          leaves_left = numbering.leaves_left ∙ ap leaf_visits rest;
        }

-- where all have come, the nodes and leaves are those of the partition
pub numbering_ends : (walk : List Visit) (i : ℕ) (waiting : List Child) (nodes : List NodeRecord) (leaves : List LeafRecord) (n k : ℕ) (shape : Partition) → IsNumbering walk i waiting nodes leaves n k → length walk ≤ i → reverse walk ≡ visits shape → AreNumbered shape (reverse nodes) (reverse leaves)
numbering_ends walk i waiting nodes leaves n k shape numbering end whole =
    let none : drop i walk ≡ [] = drop_all i walk end in
    let all : take i walk ≡ walk = take_all i walk end in
    let no_node : n ≡ 0 = numbering.nodes_left ∙ ap node_visits none in
    let no_leaf : k ≡ 0 = numbering.leaves_left ∙ ap leaf_visits none in
    let done : reverse (take i walk) ≡ visits shape = ap reverse all ∙ whole in
    let so_far = subst (λ (j : ℕ). IsNumberedSoFar (visits shape) waiting nodes leaves 0 j) no_leaf
    (subst (λ (j : ℕ). IsNumberedSoFar (visits shape) waiting nodes leaves j k) no_node
    (subst (λ (all : List Visit). IsNumberedSoFar all waiting nodes leaves n k) done numbering.so_far)) in
    all_so_far shape waiting nodes leaves so_far
