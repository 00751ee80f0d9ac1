-- The row that words of 64 bits keep.
use Rattle.std.specs.Prelude.{◌≡◌, ℕ, ◌/◌, ◌%◌, ◌^◌, ◌<◌, ◌≤◌, Bool, false, List, map, length, slice_index_or}
use Rattle.std.specs.Int.{div_ceil}
use Rattle.std.specs.List.{range_with_len}
use Rattle.qm_lists.specs.Word.{has_bit}

-- whether the bit of the place is set, in the word in which it lies
unfoldable pub is_set : List ℕ → ℕ → Bool
is_set words place = has_bit (slice_index_or words (place / 64) 0) (place % 64)

-- the places below the length
unfoldable pub row_of : List ℕ → ℕ → List Bool
row_of words len = map (is_set words) (range_with_len 0 len)

-- the length is one of 64 bits, there are as many words as the places need, and no bit past them is set
pub record IsRow (words : List ℕ) (len : ℕ) : Type 0 where
  pub counted : len < 2 ^ 64
  pub word_count : length words ≡ div_ceil len 64
  pub clear_past : (place : ℕ) → len ≤ place → is_set words place ≡ false
