use Rattle.std.specs.Prelude.{◌≡◌, ℕ, ◌+◌, ◌*◌, ◌<◌, ◌≤◌, Bool, true, false, List, [], length, slice_index, slice_index_or}
use Rattle.qm_lists.specs.Word.{has_bit}

-- Rows that are read from words.

-- the words of the row stand from a place on
pub record IsRowOfWords (words : List ℕ) (place leaves : ℕ) (row : List Bool) : Type 0 where
  pub wide : length row ≡ leaves
  pub bits : (k bit : ℕ) → bit < 64 → 64 * k + bit < leaves → slice_index_or row (64 * k + bit) false ≡ has_bit (slice_index words (place + k)) bit

-- so many rows, the first ones
pub record AreRowsOfWords (words : List ℕ) (portals width leaves count : ℕ) (rows : List (List Bool)) : Type 0 where
  pub one_each : length rows ≡ count
  pub rows_are : (portal : ℕ) → portal < count → IsRowOfWords words ((1 + portals) + portal * width) leaves (slice_index_or rows portal [])

-- so many words of the row were read, the first ones, and all other places are set
pub record IsRowUpTo (words : List ℕ) (place leaves count : ℕ) (row : List Bool) : Type 0 where
  pub wide : length row ≡ leaves
  pub read : (k bit : ℕ) → k < count → bit < 64 → 64 * k + bit < leaves → slice_index_or row (64 * k + bit) false ≡ has_bit (slice_index words (place + k)) bit
  pub left : (k bit : ℕ) → count ≤ k → bit < 64 → 64 * k + bit < leaves → slice_index_or row (64 * k + bit) false ≡ true
