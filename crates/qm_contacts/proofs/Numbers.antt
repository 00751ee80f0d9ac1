-- Numbered leaves by their numbers.
use Rattle.std.proofs.Common.{◌≡◌, ℕ, zero, suc, ◌+◌, Bool, true, false, List, [], ◌∷◌, take, slice_get, Some, Contains, ◌<◌, cond, refl, sym, ap, ◌∙◌, arith}
use Rattle.std.specs.Prelude.{count_by}
use Rattle.std.proofs.lemmas.List.Sums.{sum_by-cons}
use Rattle.std.proofs.lemmas.Option.{slice_get-get_or, slice_get_within}
use Rattle.qm_lists.proofs.Cases.{by_cases}
use Rattle.qm_partition.specs.declared.node.Leaf.{Leaf}
use Rattle.qm_partition.specs.Tree.{Tree}
use Rattle.qm_partition.specs.Counting.{leaves_of, leaf_count}
use Rattle.qm_contacts.specs.NumberedLeaves.{is_numbered, numbered_from, numbered_leaves}
use Rattle.qm_contacts.specs.Portals.{leaf_number}

-- one leaf more in front

module _ (first : Leaf) (all : List Leaf) where
  count_one : count_by is_numbered (first ∷ all) ≡ cond (is_numbered first) 1 0 + count_by is_numbered all
  count_one = sum_by-cons (λ found. cond (is_numbered found) 1 0) first all

  pub count_yes : is_numbered first ≡ true → count_by is_numbered (first ∷ all) ≡ suc (count_by is_numbered all)
  count_yes test = count_one ∙ ap (λ (b : Bool). cond b 1 0 + count_by is_numbered all) test ∙ omega arith

  pub count_no : is_numbered first ≡ false → count_by is_numbered (first ∷ all) ≡ count_by is_numbered all
  count_no test = count_one ∙ ap (λ (b : Bool). cond b 1 0 + count_by is_numbered all) test ∙ omega arith

  pub from_yes : (j : ℕ) → is_numbered first ≡ true → numbered_from (first ∷ all) j ≡ j ∷ numbered_from all (j + 1)
  from_yes j test = rw test refl

  pub from_no : (j : ℕ) → is_numbered first ≡ false → numbered_from (first ∷ all) j ≡ numbered_from all (j + 1)
  from_no j test = rw test refl

at_its_number : (all : List Leaf) (j i : ℕ) (found : Leaf) → slice_get all i ≡ Some found → is_numbered found ≡ true → slice_get (numbered_from all j) (count_by is_numbered (take i all)) ≡ Some (j + i)
at_its_number [] j i found at numbered = absurd cc
at_its_number (first ∷ all) j zero found at numbered =
    let same : first ≡ found = cc in
    let list = from_yes first all j (ap is_numbered same ∙ numbered) in
    ap (λ (numbers : List ℕ). slice_get numbers 0) list ∙ ap Some {x = j} {y = j + 0} (omega arith)
at_its_number (first ∷ all) j (suc i) found at numbered =
    let below = at_its_number all (j + 1) i found at numbered in
    let place : (j + 1) + i ≡ j + suc i = omega arith in
    by_cases (is_numbered first)
    (λ test. (λ t. slice_get (from_yes first all j test t) (count_yes first (take i all) test t)) ∙ below ∙ ap Some place)
    (λ test. (λ t. slice_get (from_no first all j test t) (count_no first (take i all) test t)) ∙ below ∙ ap Some place)

-- the leaf of a number in such a list
record IsNumbered (all : List Leaf) (j n k : ℕ) : Type 0 where
  i : ℕ
  found : Leaf
  place : k ≡ j + i
  leaf_is : slice_get all i ≡ Some found
  numbered : is_numbered found ≡ true
  number : n ≡ count_by is_numbered (take i all)

one_later : (first : Leaf) (all : List Leaf) (j n m now k : ℕ) → now ≡ m + n → IsNumbered all (j + 1) n k → ((i : ℕ) → count_by is_numbered (first ∷ take i all) ≡ m + count_by is_numbered (take i all)) → IsNumbered (first ∷ all) j now k
one_later first all j n m now k sum is count = record {
  i = suc is.i;
  found = is.found;
  place = omega (arith, is.place);
  leaf_is = is.leaf_is;
  numbered = is.numbered;
  number = omega (arith, sum, is.number, count is.i);
}

from_its_number : (all : List Leaf) (j n k : ℕ) → slice_get (numbered_from all j) n ≡ Some k → IsNumbered all j n k
from_its_number [] j n k at = absurd cc
from_its_number (first ∷ all) j n k at = by_cases (is_numbered first)
    (λ test. here n test (ap (λ (numbers : List ℕ). slice_get numbers n) (sym (from_yes first all j test)) ∙ at) (λ m below. from_its_number all (j + 1) m k below))
    (λ test.
    let below = from_its_number all (j + 1) n k (ap (λ (numbers : List ℕ). slice_get numbers n) (sym (from_no first all j test)) ∙ at) in
    one_later first all j n 0 n k (omega arith) below (λ i. count_no first (take i all) test ∙ omega arith))
  where
    here : (m : ℕ) → is_numbered first ≡ true → slice_get (j ∷ numbered_from all (j + 1)) m ≡ Some k → ((l : ℕ) → slice_get (numbered_from all (j + 1)) l ≡ Some k → IsNumbered all (j + 1) l k) → IsNumbered (first ∷ all) j m k
    here zero test is below = let same : j ≡ k = cc in record { i = 0; found = first; place = omega (arith, same); leaf_is = refl; numbered = test; number = refl }
    here (suc m) test is below = one_later first all j m 1 (suc m) k (omega arith) (below m is) (λ i. count_yes first (take i all) test ∙ omega arith)

-- ---- of a tree

-- a numbered leaf stands at its number
pub leaf_at_number : (tree : Tree) (k : ℕ) (found : Leaf) → slice_get (leaves_of tree.shape) k ≡ Some found → is_numbered found ≡ true → slice_get (numbered_leaves tree) (leaf_number tree k) ≡ Some k
leaf_at_number tree k found at numbered = at_its_number (leaves_of tree.shape) 0 k found at numbered ∙ ap Some {x = 0 + k} {y = k} (omega arith)

-- and what stands at a number is a numbered leaf of that number
pub number_at_leaf : (tree : Tree) (n k : ℕ) → slice_get (numbered_leaves tree) n ≡ Some k → (found : Leaf) × (slice_get (leaves_of tree.shape) k ≡ Some found) × (is_numbered found ≡ true) × (leaf_number tree k ≡ n)
number_at_leaf tree n k at =
    let is = from_its_number (leaves_of tree.shape) 0 n k at in
    let same : k ≡ is.i = omega (arith, is.place) in
    (is.found, ap (slice_get (leaves_of tree.shape)) same ∙ is.leaf_is, is.numbered, ap (leaf_number tree) same ∙ sym is.number)

pub leaf_within : (tree : Tree) (n k : ℕ) → slice_get (numbered_leaves tree) n ≡ Some k → k < leaf_count tree.shape
leaf_within tree n k at = let is = number_at_leaf tree n k at in slice_get_within (leaves_of tree.shape) k is.0 is.1

-- a leaf that is not numbered is not in the list
pub not_listed : (tree : Tree) (k : ℕ) (found : Leaf) → slice_get (leaves_of tree.shape) k ≡ Some found → is_numbered found ≡ false → Contains (numbered_leaves tree) k → ⊥
not_listed tree k found at not_numbered listed =
    let there = slice_get-get_or (numbered_leaves tree) listed.0 k listed.1 ∙ ap Some listed.2 in
    let is = number_at_leaf tree listed.0 k there in
    let e : Some found ≡ Some is.0 = sym at ∙ is.1 in
    let same : found ≡ is.0 = cc in
    let both : false ≡ true = sym not_numbered ∙ ap is_numbered same ∙ is.2 in
    absurd cc
