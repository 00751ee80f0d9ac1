-- Leaves are marked one by one, and those of all places are the leaves of the marked tree.
use Rattle.std.proofs.Common.{◌≡◌, ℕ, ◌+◌, ◌<◌, Bool, true, false, List, length, get_or, set, refl, ap, sym, ◌∙◌, subst, arith, ⊎_elim}
use Rattle.std.proofs.lemmas.Bool.{cases_lt}
use Rattle.std.proofs.lemmas.List.{ext_get_or, get_or-set_same, get_or-set_other, length-set}
use Rattle.qm_space.specs.Plane.{Plane}
use Rattle.qm_partition.specs.declared.node.Node.{Node}
use Rattle.qm_partition.specs.declared.node.Leaf.{Leaf}
use Rattle.qm_partition.specs.Tree.{Tree}
use Rattle.qm_partition.specs.Numbering.{AreNumbered}
use Rattle.qm_partition.specs.Arrays.{tree_of}
use Rattle.qm_partition.specs.WellMade.{IsMadeOf}
use Rattle.qm_partition.specs.Marked.{filled_leaf, marked_leaf, marked, marked_tree}
use Rattle.qm_partition.proofs.MarkedLeaves.{marked_leaves, length-marked_leaves, marked_at}
use Rattle.qm_partition.proofs.MadeTrees.{made_tree}
use Rattle.qm_partition.proofs.MarkedParts.{marked_numbered, marked_well_made}
use Rattle.qm_tree.specs.inner.MarkedBelow.{AreMarkedBelow}

module _ (row : List Bool) (old : List Leaf) where
  pub none_marked : AreMarkedBelow 0 row old old
  none_marked = record { same_count = refl; done = λ k below. absurd (omega (arith, below)); left = λ k from. refl }

  -- the next leaf stays
  pub next_stays : (count : ℕ) (new : List Leaf) → get_or row count false ≡ false → AreMarkedBelow count row old new → AreMarkedBelow (count + 1) row old new
  next_stays count new clear are = record {
    same_count = are.same_count;
    done = λ k below. ⊎_elim
        (λ before. are.done k before)
        (λ not_before.
        let same : k ≡ count = omega (arith, below, not_before) in
        are.left k not_before ∙ ap (λ (mark : Bool). marked_leaf mark (get_or old k filled_leaf)) (sym (ap (λ (n : ℕ). get_or row n false) same ∙ clear)))
        (cases_lt k count);
    left = λ k from. are.left k (omega (arith, from));
  }

  -- the next leaf is marked
  pub next_marked : (count : ℕ) (new : List Leaf) → count < length old → get_or row count false ≡ true → AreMarkedBelow count row old new → AreMarkedBelow (count + 1) row old (set new count filled_leaf)
  next_marked count new within is_set are = record {
    same_count = length-set new count filled_leaf ∙ are.same_count;
    done = λ k below. ⊎_elim
        (λ before. get_or-set_other new count k filled_leaf filled_leaf (λ same. absurd (omega (arith, before, same))) ∙ are.done k before)
        (λ not_before.
        let same : k ≡ count = omega (arith, below, not_before) in
        ap (λ (n : ℕ). get_or (set new count filled_leaf) n filled_leaf) same
        ∙ get_or-set_same new count filled_leaf filled_leaf (omega (arith, within, are.same_count))
        ∙ ap (λ (mark : Bool). marked_leaf mark (get_or old k filled_leaf)) (sym (ap (λ (n : ℕ). get_or row n false) same ∙ is_set)))
        (cases_lt k count);
    left = λ k from. get_or-set_other new count k filled_leaf filled_leaf (λ same. absurd (omega (arith, from, same))) ∙ are.left k (omega (arith, from));
  }

  pub all_marked : (new : List Leaf) → AreMarkedBelow (length old) row old new → new ≡ marked_leaves row old 0
  all_marked new are =
      let count = length-marked_leaves row old 0 in
      ext_get_or filled_leaf new (marked_leaves row old 0) (are.same_count ∙ sym count)
      (λ i within.
      let none_more : 0 + i ≡ i = omega arith in
      are.done i (omega (arith, within, are.same_count)) ∙ sym (marked_at row old 0 i ∙ ap (λ (n : ℕ). marked_leaf (get_or row n false) (get_or old i filled_leaf)) none_more))

  -- so where a tree was made of these leaves, the marked tree is made of the marked ones
  marked_made : (tree : Tree) (planes : List Plane) (nodes : List Node) (new : List Leaf) → IsMadeOf tree planes nodes old → AreMarkedBelow (length old) row old new → IsMadeOf (marked_tree row tree) planes nodes new
  marked_made tree planes nodes new made are = record {
    planes_are = made.planes_are;
    numbered = subst (λ (all : List Leaf). AreNumbered (marked row tree.shape 0) nodes all) (sym (all_marked new are)) (marked_numbered row tree.shape nodes old made.numbered);
    well_made = marked_well_made row tree made.well_made;
  }

  pub marked_parts : (tree : Tree) (planes : List Plane) (nodes : List Node) (new : List Leaf) → tree_of planes nodes old ≡ tree → IsMadeOf (tree_of planes nodes old) planes nodes old → AreMarkedBelow (length old) row old new → (tree_of planes nodes new ≡ marked_tree row tree) × IsMadeOf (tree_of planes nodes new) planes nodes new
  marked_parts tree planes nodes new view made are =
      let its = marked_made tree planes nodes new (subst (λ (t : Tree). IsMadeOf t planes nodes old) view made) are in
      let is = made_tree (marked_tree row tree) planes nodes new its in
      (is, subst (λ (t : Tree). IsMadeOf t planes nodes new) (sym is) its)
