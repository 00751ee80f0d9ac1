-- A walk through a numbered partition: the children that are due stand on a stack.
use Rattle.std.proofs.Common.{◌≡◌, ◌<◌, ◌≤◌, ℕ, ◌+◌, List, [], ◌∷◌, ◌++◌, length, reverse, Some, refl, sym, ap, subst, ◌∙◌, arith, length-append, add-zero, zero-add}
use Rattle.std.specs.Prelude.{slice_get}
use Rattle.std.proofs.lemmas.List.{append_assoc, append-nil}
use Rattle.std.proofs.lemmas.Option.{slice_get_within}
use Rattle.qm_lists.proofs.Reversed.{reverse-push}
use Rattle.qm_partition.specs.declared.node.Node.{Node as NodeRecord}
use Rattle.qm_partition.specs.declared.node.Leaf.{Leaf as LeafRecord}
use Rattle.qm_partition.specs.declared.node.Child.{Child}
use Rattle.qm_partition.specs.declared.node.Child.TheVariants.{Node, Leaf}
use Rattle.qm_partition.specs.declared.visit.Visit.{Visit}
use Rattle.qm_partition.specs.declared.visit.Visit.TheVariants as visit
use Rattle.qm_partition.specs.Partition.{Partition, leaf, node}
use Rattle.qm_partition.specs.Counting.{leaves_of, node_count, leaf_count}
use Rattle.qm_partition.specs.Numbering.{nodes_after, leaves_after, child_of, nodes_of}
use Rattle.qm_partition.specs.Visits.{visits}
use Rattle.qm_partition.proofs.Counts.{length-nodes_of}
use Rattle.qm_partition.specs.inner.PlacedPart.{IsPart}
use Rattle.qm_partition.proofs.PlacedParts.{top_node, whole_part, part_node, part_front, part_back}
use Rattle.qm_partition.proofs.OwnArrays.{AreLeavesAt, leaves_front, leaves_back}
use Rattle.qm_partition.proofs.Forests.{forest_children, forest_visits}

module _ (whole : Partition) where
  -- partitions one behind another are parts of the whole
  abbrev AreParts : List Partition → ℕ → ℕ → Type 0
  AreParts [] n k = Unit {0}
  AreParts (shape ∷ forest) n k = IsPart whole shape n k × AreLeavesAt (leaves_of whole) shape k × AreParts forest (nodes_after shape n) (leaves_after shape k)

  -- the partitions of the children that are due are what is left to visit
  pub record IsWalking (due : List Child) (walk : List Visit) : Type 0 where
    pub forest : List Partition
    pub n : ℕ
    pub k : ℕ
    pub children_are : reverse due ≡ forest_children forest n k
    pub parts_are : AreParts forest n k
    pub visits_are : visits whole ≡ walk ++ forest_visits forest

  pub walking_begins : IsWalking (child_of whole 0 0 ∷ []) []
  walking_begins =
      record {
        forest = whole ∷ [];
        n = 0;
        k = 0;
        children_are = refl;
        parts_are = (whole_part whole, record { at = λ i found at. rw zero-add at }, tt);
        visits_are = sym (append-nil (visits whole));
      }

  -- one visit more
  visit_more : (visit : Visit) (walk rest : List Visit) → visits whole ≡ walk ++ (visit ∷ rest) → visits whole ≡ (walk ++ visit ∷ []) ++ rest
  visit_more visit walk rest are = are ∙ sym (append_assoc walk (visit ∷ []) rest)

  module _ (due : List Child) (walk : List Visit) where
    -- ---- a leaf is due

    record BeginsWithLeaf (j : ℕ) : Type 0 where
      found : LeafRecord
      found_is : slice_get (leaves_of whole) j ≡ Some found
      after : IsWalking due (walk ++ visit.Leaf found ∷ [])

    begins_with_leaf : (forest : List Partition) (n k j : ℕ) → Leaf j ∷ reverse due ≡ forest_children forest n k → AreParts forest n k → visits whole ≡ walk ++ forest_visits forest → BeginsWithLeaf j
    begins_with_leaf [] n k j children parts are = absurd cc
    begins_with_leaf (leaf found ∷ forest) n k j children parts are =
        let same : j ≡ k = cc in
        record {
          found = found;
          found_is = rw same (rw add-zero at (parts.1.at 0 found refl));
          after = record { forest = forest; n = n; k = k + 1; children_are = cc; parts_are = parts.2; visits_are = visit_more (visit.Leaf found) walk (forest_visits forest) are };
        }
    begins_with_leaf (node p front back ∷ forest) n k j children parts are = absurd (let e : Leaf j ≡ Node n = cc in cc)

    leaf_first : (j : ℕ) → IsWalking (due ++ Leaf j ∷ []) walk → BeginsWithLeaf j
    leaf_first j walking = begins_with_leaf walking.forest walking.n walking.k j (sym (reverse-push due (Leaf j)) ∙ walking.children_are) walking.parts_are walking.visits_are

    pub leaf_walked : (j : ℕ) (found : LeafRecord) → IsWalking (due ++ Leaf j ∷ []) walk → slice_get (leaves_of whole) j ≡ Some found → IsWalking due (walk ++ visit.Leaf found ∷ [])
    leaf_walked j found walking at =
        let first = leaf_first j walking in
        let same : first.found ≡ found = let e : Some first.found ≡ Some found = sym first.found_is ∙ at in cc in
        subst (λ (leaf : LeafRecord). IsWalking due (walk ++ visit.Leaf leaf ∷ [])) same first.after

    -- a leaf that is due is there
    pub leaf_walked_within : (j : ℕ) → IsWalking (due ++ Leaf j ∷ []) walk → j < leaf_count whole
    leaf_walked_within j walking = let first = leaf_first j walking in slice_get_within (leaves_of whole) j first.found first.found_is

    -- ---- a node is due

    record BeginsWithNode (j : ℕ) : Type 0 where
      here : NodeRecord
      here_is : slice_get (nodes_of whole 0 0) j ≡ Some here
      after : IsWalking ((due ++ here.back ∷ []) ++ here.front ∷ []) (walk ++ visit.Node here.plane ∷ [])

    begins_with_node : (forest : List Partition) (n k j : ℕ) → Node j ∷ reverse due ≡ forest_children forest n k → AreParts forest n k → visits whole ≡ walk ++ forest_visits forest → BeginsWithNode j
    begins_with_node [] n k j children parts are = absurd cc
    begins_with_node (leaf found ∷ forest) n k j children parts are = absurd (let e : Node j ≡ Leaf k = cc in cc)
    begins_with_node (node p front back ∷ forest) n k j children parts are =
        let same : j ≡ n = cc in
        let top = top_node p front back n k in
        let n_back = nodes_after front (n + 1) in
        let k_back = leaves_after front k in
        let rest : reverse due ≡ forest_children forest (nodes_after back n_back) (leaves_after back k_back) = cc in
        let stack : reverse ((due ++ top.back ∷ []) ++ top.front ∷ []) ≡ top.front ∷ (top.back ∷ reverse due) =
        reverse-push (due ++ top.back ∷ []) top.front ∙ ap (λ (all : List Child). top.front ∷ all) (reverse-push due top.back) in
        record {
          here = top;
          here_is = rw same (part_node whole p front back n k parts.0);
          after = record {
            forest = front ∷ (back ∷ forest);
            n = n + 1;
            k = k;
            children_are = stack ∙ ap (λ (all : List Child). top.front ∷ (top.back ∷ all)) rest;
            parts_are = (
              part_front whole p front back n k parts.0,
              leaves_front (leaves_of whole) p front back k parts.1,
              (part_back whole p front back n k parts.0, leaves_back (leaves_of whole) p front back k parts.1, parts.2),
            );
            visits_are =
                visit_more (visit.Node p) walk ((visits front ++ visits back) ++ forest_visits forest) are
                ∙ ap (λ (rest : List Visit). (walk ++ visit.Node p ∷ []) ++ rest) (append_assoc (visits front) (visits back) (forest_visits forest));
          };
        }

    node_first : (j : ℕ) → IsWalking (due ++ Node j ∷ []) walk → BeginsWithNode j
    node_first j walking = begins_with_node walking.forest walking.n walking.k j (sym (reverse-push due (Node j)) ∙ walking.children_are) walking.parts_are walking.visits_are

    pub node_walked : (j : ℕ) (here : NodeRecord) → IsWalking (due ++ Node j ∷ []) walk → slice_get (nodes_of whole 0 0) j ≡ Some here → IsWalking ((due ++ here.back ∷ []) ++ here.front ∷ []) (walk ++ visit.Node here.plane ∷ [])
    node_walked j here walking at =
        let first = node_first j walking in
        let same : first.here ≡ here = let e : Some first.here ≡ Some here = sym first.here_is ∙ at in cc in
        subst (λ (m : NodeRecord). IsWalking ((due ++ m.back ∷ []) ++ m.front ∷ []) (walk ++ visit.Node m.plane ∷ [])) same first.after

    -- a node that is due is there
    pub node_walked_within : (j : ℕ) → IsWalking (due ++ Node j ∷ []) walk → j < node_count whole
    node_walked_within j walking =
        let first = node_first j walking in
        omega (arith, slice_get_within (nodes_of whole 0 0) j first.here first.here_is, length-nodes_of whole 0 0)

    -- no more is walked than there is
    pub walked_at_most : IsWalking due walk → length walk ≤ length (visits whole)
    walked_at_most walking = omega (arith, ap length walking.visits_are, length-append walk (forest_visits walking.forest))

  nothing_due : (forest : List Partition) (n k : ℕ) (walk : List Visit) → [] ≡ forest_children forest n k → visits whole ≡ walk ++ forest_visits forest → walk ≡ visits whole
  nothing_due [] n k walk children are = sym (are ∙ append-nil walk)
  nothing_due (shape ∷ forest) n k walk children are = absurd cc

  -- where nothing is due, all is walked
  pub all_walked : (walk : List Visit) → IsWalking [] walk → walk ≡ visits whole
  all_walked walk walking = nothing_due walking.forest walking.n walking.k walk walking.children_are walking.visits_are
