use Rattle.std.specs.Prelude.{◌≡◌, ◌⊎◌, ℕ, ◌+◌, ◌<◌, ◌≤◌, List, length, slice_index, Contains, ◌↔◌}
use Rattle.std.specs.List.{slice_range}
use Rattle.std.specs.List.Sorted.{IsStrictlyIncreasing}
use Rattle.qm_contacts.specs.Touching.{Touching}

-- The others of a leaf: those with which it makes pairs of a list.

-- the pair of these leaves, in this order
pub record IsPair (found : Touching) (a b : ℕ) : Type 0 where
  pub front : found.front ≡ a
  pub back : found.back ≡ b

-- the pair has the leaf a, and b is its other one
abbrev pub IsOther : Touching → ℕ → ℕ → Type 0
IsOther found a b = IsPair found a b ⊎ IsPair found b a

-- exactly the others of a leaf, ascending
pub record AreOthers (touchings : List Touching) (k : ℕ) (others : List ℕ) : Type 0 where
  pub ascending : IsStrictlyIncreasing others
  pub paired : (other : ℕ) → Contains others other ↔ ((found : Touching) × Contains touchings found × IsOther found k other)

-- of rows that stand one after another, the row of number k: it goes from where it begins to where the next one does
abbrev pub row_at : List ℕ → List ℕ → ℕ → List ℕ
row_at begins all k = slice_range all (slice_index begins k) (slice_index begins (k + 1))

-- rows one after another are the others of so many leaves
pub record AreOthersInRows (touchings : List Touching) (leaves : ℕ) (begins all : List ℕ) : Type 0 where
  pub one_each : length begins ≡ leaves + 1
  pub ascending : (k : ℕ) → k < leaves → slice_index begins k ≤ slice_index begins (k + 1)
  pub within : (k : ℕ) → k < leaves → slice_index begins (k + 1) ≤ length all
  pub rows : (k : ℕ) → k < leaves → AreOthers touchings k (row_at begins all k)
