use Rattle.std.specs.Prelude.{◌≡◌, ℕ, ◌*◌, ◌<◌, Bool, List, [], ◌++◌, length, slice_index, slice_index_or}
use Rattle.qm_lists.specs.Word.{IsWord}
use Rattle.qm_shared_rows.specs.Opening.{given_word, opening_words}

-- Rows that are written down as words, one after another.

-- the first words of a row, so many, were appended
pub record HasPushedRow (row : List Bool) (count : ℕ) (old new : List ℕ) : Type 0 where
  pub words : List ℕ
  pub one_each : length words ≡ count
  pub are_words : (k : ℕ) → k < count → IsWord row k (slice_index words k)
  pub new_is : new ≡ old ++ words

-- these are the words at the start, as far as the first rows, so many
pub record AreFirstRows (portals width : ℕ) (rows : List (List Bool)) (count : ℕ) (words : List ℕ) : Type 0 where
  pub given : List ℕ
  pub words_are : words ≡ opening_words portals given
  pub one_each : length given ≡ count * width
  pub are_words : (portal k : ℕ) → portal < count → k < width → IsWord (slice_index_or rows portal []) k (given_word width given portal k)
