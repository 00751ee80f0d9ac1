-- The 64 places of a row that are the bits of one word. A place past the end of a row counts as clear.
use Rattle.std.specs.Prelude.{◌≡◌, ◌≢◌, ℕ, ◌+◌, ◌*◌, ◌/◌, ◌<◌, ◌==◌, Bool, false, ◌&&◌, List, length, slice_index_or}
use Rattle.std.specs.Int.{bit_at}

-- whether the bit is set
abbrev pub has_bit : ℕ → ℕ → Bool
has_bit word bit = bit_at word bit == 1

-- the bits of the word are the places of the row from 64 * k on
abbrev pub IsWord : List Bool → ℕ → ℕ → Type 0
IsWord row k word = (bit : ℕ) → bit < 64 → has_bit word bit ≡ slice_index_or row (64 * k + bit) false

-- of the places of word k those stay set whose bit of the mask is set, and all others are as they were
pub record IsMasked (old new : List Bool) (k mask : ℕ) : Type 0 where
  pub same_length : length new ≡ length old
  pub in_word : (bit : ℕ) → bit < 64 → slice_index_or new (64 * k + bit) false ≡ (slice_index_or old (64 * k + bit) false && has_bit mask bit)
  pub elsewhere : (place : ℕ) → place / 64 ≢ k → slice_index_or new place false ≡ slice_index_or old place false
