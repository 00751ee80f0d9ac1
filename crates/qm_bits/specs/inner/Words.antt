-- What is done with words one by one.
use Rattle.std.specs.Prelude.{◌≡◌, ℕ, ◌*◌, ◌<◌, ◌≤◌, true, false, List, length, slice_index_or, bit_and}
use Rattle.std.specs.Int.{bit_not, w64}
use Rattle.std.specs.List.{count_by}
use Rattle.qm_bits.specs.inner.Rows.{is_set, row_of}

-- how many of the places in the first words are set
unfoldable pub ones_of : ℕ → List ℕ → ℕ
ones_of count words = count_by (λ set. set) (row_of words (64 * count))

-- each word is made of those of both
pub record IsOfBoth (of : ℕ → ℕ → ℕ) (old other new : List ℕ) : Type 0 where
  pub same_count : length new ≡ length old
  pub each : (k : ℕ) → k < length old → slice_index_or new k 0 ≡ of (slice_index_or old k 0) (slice_index_or other k 0)

-- so are the first words, and the others are as they were
pub record IsOfBothBelow (of : ℕ → ℕ → ℕ) (count : ℕ) (old other new : List ℕ) : Type 0 where
  pub same_count : length new ≡ length old
  pub done : (k : ℕ) → k < count → slice_index_or new k 0 ≡ of (slice_index_or old k 0) (slice_index_or other k 0)
  pub left : (k : ℕ) → count ≤ k → slice_index_or new k 0 ≡ slice_index_or old k 0

-- some place is set in the words and clear in those that were seen
abbrev pub HaveUnseen : List ℕ → List ℕ → Type 0
HaveUnseen words seen = (place : ℕ) × (is_set words place ≡ true) × (is_set seen place ≡ false)

-- the first words have no bit that is clear in those that were seen
abbrev pub NoneIsUnseen : ℕ → List ℕ → List ℕ → Type 0
NoneIsUnseen count words seen = (k : ℕ) → k < count → bit_and (slice_index_or words k 0) (bit_not w64 (slice_index_or seen k 0)) ≡ 0
