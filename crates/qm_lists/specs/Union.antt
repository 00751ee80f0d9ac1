-- The places of two rows together.
use Rattle.std.specs.Prelude.{◌≡◌, ℕ, Bool, false, ◌||◌, List, length, slice_index_or}

-- a place is set where it is in one of the two
pub record IsUnion (old other new : List Bool) : Type 0 where
  pub same_length : length new ≡ length old
  pub in_one : (place : ℕ) → slice_index_or new place false ≡ (slice_index_or old place false || slice_index_or other place false)
