-- The numbers of leaves, by one leaf after another, and brought into order.
use Rattle.std.proofs.Common.{◌≡◌, ℕ, eqb, List, [], ◌∷◌, ◌++◌, Contains, subst, sym, ◌∙◌, ⊎_elim}
use Rattle.std.specs.List.{dedup}
use Rattle.std.specs.List.Sorted.{IsSorted, IsPermutation, IsStrictlyIncreasing}
use Rattle.std.specs.Ordering.{nat_cmp}
use Rattle.std.proofs.lemmas.List.Elements.{Contains-append_left, Contains-append_right, Contains-append_cases}
use Rattle.std.proofs.lemmas.List.Kept.{Contains-dedup_nat, Contains-from_dedup}
use Rattle.std.proofs.lemmas.List.Sorted.{IsPermutation-sym, Contains-permutation}
use Rattle.std.proofs.lemmas.Map.Keys.{IsStrictlyIncreasing-dedup}
use Rattle.std.proofs.lemmas.Option.{slice_get_within, get_or_from_slice_get}
use Rattle.qm_lists.proofs.Elements.{Contains-nil, Contains-first, Contains-cons_cases}
use Rattle.qm_partition.specs.Tree.{Tree}
use Rattle.qm_contacts.specs.NumberedLeaves.{numbered_leaves}
use Rattle.qm_contacts.proofs.Numbers.{number_at_leaf}
use Rattle.qm_segments.specs.LeafNumber.{IsNumberOf}
use Rattle.qm_outlines.specs.Outlines.{AreFoundNumbers, AreSortedNumbers}

only : (x y : ℕ) → Contains (x ∷ []) y → x ≡ y
only x y listed = ⊎_elim (λ same. same) (λ later. absurd (Contains-nil y later)) (Contains-cons_cases x y [] listed)

module _ (tree : Tree) where
  -- a leaf has one number
  one_number : (n m leaf : ℕ) → IsNumberOf tree n leaf → IsNumberOf tree m leaf → n ≡ m
  one_number n m leaf is other = sym (number_at_leaf tree n leaf is).3 ∙ (number_at_leaf tree m leaf other).3

  pub no_numbers : AreFoundNumbers tree [] []
  no_numbers n = ((λ listed. absurd (Contains-nil n listed)), (λ among. absurd (Contains-nil among.0 among.2)))

  module _ (leaves numbers : List ℕ) (leaf : ℕ) (found : AreFoundNumbers tree leaves numbers) where
    -- of a numbered leaf more
    pub one_more_number : (number : ℕ) → IsNumberOf tree number leaf → AreFoundNumbers tree (leaves ++ leaf ∷ []) (numbers ++ number ∷ [])
    one_more_number number is n = (
      (λ listed. ⊎_elim
          (λ before. let its = (found n).0 before in (its.0, its.1, Contains-append_left leaves (leaf ∷ []) its.0 its.2))
          (λ last. (leaf, subst (λ (m : ℕ). IsNumberOf tree m leaf) (only number n last) is, Contains-append_right leaves (leaf ∷ []) leaf (Contains-first leaf [])))
          (Contains-append_cases numbers (number ∷ []) n listed)),
      (λ among. ⊎_elim
          (λ before. Contains-append_left numbers (number ∷ []) n ((found n).1 (among.0, among.1, before)))
          (λ last.
          let its = subst (IsNumberOf tree n) (sym (only leaf among.0 last)) among.1 in
          Contains-append_right numbers (number ∷ []) n (subst (Contains (number ∷ [])) (one_number number n leaf is its) (Contains-first number [])))
          (Contains-append_cases leaves (leaf ∷ []) among.0 among.2)),
    )

    -- of one more that is not numbered
    pub no_more_number : (Contains (numbered_leaves tree) leaf → ⊥) → AreFoundNumbers tree (leaves ++ leaf ∷ []) numbers
    no_more_number never n = (
      (λ listed. let its = (found n).0 listed in (its.0, its.1, Contains-append_left leaves (leaf ∷ []) its.0 its.2)),
      (λ among. ⊎_elim
          (λ before. (found n).1 (among.0, among.1, before))
          (λ last.
          let its = subst (IsNumberOf tree n) (sym (only leaf among.0 last)) among.1 in
          absurd (never (n, slice_get_within (numbered_leaves tree) n leaf its, get_or_from_slice_get (numbered_leaves tree) n leaf leaf its)))
          (Contains-append_cases leaves (leaf ∷ []) among.0 among.2)),
    )

  -- sorted, and each once
  pub numbers_in_order : (leaves found sorted numbers : List ℕ) → AreFoundNumbers tree leaves found → IsPermutation found sorted → IsSorted nat_cmp sorted → numbers ≡ dedup eqb sorted → AreSortedNumbers tree leaves numbers
  numbers_in_order leaves found sorted numbers are moved order once = record {
    ascending = subst IsStrictlyIncreasing (sym once) (IsStrictlyIncreasing-dedup sorted order);
    are = λ n. (
      (λ listed. (are n).0 (Contains-permutation sorted found n (IsPermutation-sym found sorted moved) (Contains-from_dedup eqb sorted n (subst (λ (xs : List ℕ). Contains xs n) once listed)))),
      (λ among. subst (λ (xs : List ℕ). Contains xs n) (sym once) (Contains-dedup_nat sorted n (Contains-permutation found sorted n moved ((are n).1 among)))),
    );
  }
