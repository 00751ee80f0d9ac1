-- Leaves are numbered one by one.
use Rattle.std.proofs.Common.{◌≡◌, ℕ, suc, ◌+◌, ◌<◌, true, false, List, [], ◌∷◌, ◌++◌, length, get_or, take, slice_get, Some, refl, sym, ap, ◌∙◌, arith, ⊎_elim, subst}
use Rattle.std.specs.Prelude.{count_by}
use Rattle.std.proofs.lemmas.Bool.{cases_lt}
use Rattle.std.proofs.lemmas.List.{take-append-le, length-append}
use Rattle.std.proofs.lemmas.Option.{get_or_from_slice_get}
use Rattle.std.proofs.Math.Seq.{take-append_seam}
use Rattle.qm_lists.proofs.Cases.{by_cases}
use Rattle.qm_lists.proofs.Places.{slice_get-push_old, slice_get-push_last, take_next, length-take_at}
use Rattle.qm_partition.specs.declared.node.Leaf.{Leaf}
use Rattle.qm_partition.specs.Tree.{Tree}
use Rattle.qm_partition.specs.Counting.{leaves_of, leaf_count}
use Rattle.qm_contacts.specs.Portals.{leaf_number}
use Rattle.qm_contacts.specs.NumberedLeaves.{is_numbered, numbered_from}
use Rattle.qm_contacts.specs.inner.LeafNumbers.{AreBefore, AreNumbersOf}
use Rattle.qm_contacts.proofs.Numbers.{count_yes, count_no, from_yes, from_no}

-- as many leaves are listed as are counted
pub numbered_count : (all : List Leaf) (j : ℕ) → length (numbered_from all j) ≡ count_by is_numbered all
numbered_count [] j = refl
numbered_count (first ∷ all) j = by_cases (is_numbered first)
    (λ test. ap length (from_yes first all j test) ∙ ap suc (numbered_count all (j + 1)) ∙ sym (count_yes first all test))
    (λ test. ap length (from_no first all j test) ∙ numbered_count all (j + 1) ∙ sym (count_no first all test))

-- one leaf more behind

push_yes : (all : List Leaf) (found : Leaf) (j : ℕ) → is_numbered found ≡ true → numbered_from (all ++ found ∷ []) j ≡ numbered_from all j ++ (j + length all) ∷ []
push_yes [] found j numbered = from_yes found [] j numbered ∙ ap (λ (n : ℕ). n ∷ []) {x = j} {y = j + 0} (omega arith)
push_yes (first ∷ all) found j numbered =
    let place : (j + 1) + length all ≡ j + suc (length all) = omega arith in
    let below = push_yes all found (j + 1) numbered ∙ ap (λ (n : ℕ). numbered_from all (j + 1) ++ n ∷ []) place in
    by_cases (is_numbered first)
    (λ test. from_yes first (all ++ found ∷ []) j test ∙ ap (λ (rest : List ℕ). j ∷ rest) below ∙ ap (λ (rest : List ℕ). rest ++ (j + suc (length all)) ∷ []) (sym (from_yes first all j test)))
    (λ test. from_no first (all ++ found ∷ []) j test ∙ below ∙ ap (λ (rest : List ℕ). rest ++ (j + suc (length all)) ∷ []) (sym (from_no first all j test)))

push_no : (all : List Leaf) (found : Leaf) (j : ℕ) → is_numbered found ≡ false → numbered_from (all ++ found ∷ []) j ≡ numbered_from all j
push_no [] found j not_numbered = from_no found [] j not_numbered
push_no (first ∷ all) found j not_numbered = by_cases (is_numbered first)
    (λ test. from_yes first (all ++ found ∷ []) j test ∙ ap (λ (rest : List ℕ). j ∷ rest) (push_no all found (j + 1) not_numbered) ∙ sym (from_yes first all j test))
    (λ test. from_no first (all ++ found ∷ []) j test ∙ push_no all found (j + 1) not_numbered ∙ sym (from_no first all j test))

one_more_before : (all : List Leaf) (found : Leaf) (before : List ℕ) → AreBefore all before → AreBefore (all ++ found ∷ []) (before ++ count_by is_numbered all ∷ [])
one_more_before all found before are = record {
  one_each = length-append before (count_by is_numbered all ∷ []) ∙ ap (λ (n : ℕ). n + 1) are.one_each ∙ sym (length-append all (found ∷ []));
  counts = λ k within. ⊎_elim
      (λ below.
      slice_get-push_old before (count_by is_numbered all) (count_by is_numbered (take k all)) k (are.counts k below)
      ∙ ap (λ (some : List Leaf). Some (count_by is_numbered some)) (sym (take-append-le k all (found ∷ []) (omega (arith, below)))))
      (λ not_below.
      let last : k ≡ length all = omega (arith, within, not_below, length-append all (found ∷ [])) in
      let place : k ≡ length before = last ∙ sym are.one_each in
      ap (slice_get (before ++ count_by is_numbered all ∷ [])) place
      ∙ slice_get-push_last before (count_by is_numbered all)
      ∙ ap (λ (some : List Leaf). Some (count_by is_numbered some)) (sym (ap (λ (n : ℕ). take n (all ++ found ∷ [])) last ∙ take-append_seam all (found ∷ []))))
      (cases_lt k (length all));
}

module _ (all : List Leaf) (found : Leaf) (numbered before : List ℕ) (are : AreNumbersOf all numbered before) where
  -- what is put behind
  counted : length numbered ≡ count_by is_numbered all
  counted = ap length are.numbered_are ∙ numbered_count all 0

  behind : AreBefore (all ++ found ∷ []) (before ++ length numbered ∷ [])
  behind = rw counted (one_more_before all found before are.before_are)

  numbered_leaf : is_numbered found ≡ true → AreNumbersOf (all ++ found ∷ []) (numbered ++ length all ∷ []) (before ++ length numbered ∷ [])
  numbered_leaf test = record {
    numbered_are = ap (λ (rest : List ℕ). rest ++ length all ∷ []) are.numbered_are ∙ sym (push_yes all found 0 test ∙ ap (λ (n : ℕ). numbered_from all 0 ++ n ∷ []) {x = 0 + length all} {y = length all} (omega arith));
    before_are = behind;
  }

  solid_leaf : is_numbered found ≡ false → AreNumbersOf (all ++ found ∷ []) numbered (before ++ length numbered ∷ [])
  solid_leaf test = record {
    numbered_are = are.numbered_are ∙ sym (push_no all found 0 test);
    before_are = behind;
  }

-- the first leaves, and one more

module _ (leaves : List Leaf) (k : ℕ) (found : Leaf) (numbered before : List ℕ) (at : slice_get leaves k ≡ Some found) (are : AreNumbersOf (take k leaves) numbered before) where
  one_more : take (k + 1) leaves ≡ take k leaves ++ found ∷ []
  one_more = ap (λ (m : ℕ). take m leaves) {x = k + 1} {y = suc k} (omega arith) ∙ take_next leaves k found at

  pub next_numbered : is_numbered found ≡ true → AreNumbersOf (take (k + 1) leaves) (numbered ++ k ∷ []) (before ++ length numbered ∷ [])
  next_numbered test =
      let count = length-take_at leaves k found at in
      subst (λ (some : List Leaf). AreNumbersOf some (numbered ++ k ∷ []) (before ++ length numbered ∷ [])) (sym one_more)
      (subst (λ (n : ℕ). AreNumbersOf (take k leaves ++ found ∷ []) (numbered ++ n ∷ []) (before ++ length numbered ∷ [])) count (numbered_leaf (take k leaves) found numbered before are test))

  pub next_solid : is_numbered found ≡ false → AreNumbersOf (take (k + 1) leaves) numbered (before ++ length numbered ∷ [])
  next_solid test =
      subst (λ (some : List Leaf). AreNumbersOf some numbered (before ++ length numbered ∷ [])) (sym one_more) (solid_leaf (take k leaves) found numbered before are test)

pub none_numbered : AreNumbersOf [] [] []
none_numbered = record { numbered_are = refl; before_are = record { one_each = refl; counts = λ k within. absurd (omega (arith, within)) } }

-- how many come before a leaf is its number
pub number_before : (tree : Tree) (before : List ℕ) (k : ℕ) → AreBefore (leaves_of tree.shape) before → k < leaf_count tree.shape → get_or before k 0 ≡ leaf_number tree k
number_before tree before k are there = get_or_from_slice_get before k (leaf_number tree k) 0 (are.counts k there)
