use Rattle.std.specs.Prelude.{ℕ, ◌≡◌, ◌<◌, ◌≤◌, List, ◌++◌, length, take, drop, Option}
use Rattle.qm_surroundings.specs.HeldFile.{bytes_of_file}

-- a read copied this many bytes of the file, from a place on, to the beginning of a buffer
pub record IsRead (file : Option (List ℕ)) (place : ℕ) (before after : List ℕ) (count : ℕ) : Type 0 where
  -- the beginning is bytes of the file, and the rest of the buffer stays
  pub copied : after ≡ take count (drop place (bytes_of_file file)) ++ drop count before
  -- so many bytes are there
  pub in_file : count ≤ length (drop place (bytes_of_file file))
  -- and they fit
  pub in_buffer : count ≤ length before
  -- it copies none only at the file's end or into an empty buffer
  pub progress : place < length (bytes_of_file file) → 0 < length before → 0 < count
