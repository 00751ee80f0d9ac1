-- What a row has that was not seen.
use Rattle.std.specs.Prelude.{◌≡◌, ℕ, Bool, true, false, List, slice_index_or}

-- some place is set in the row and clear in what was seen
abbrev pub HasUnseen : List Bool → List Bool → Type 0
HasUnseen row seen = (place : ℕ) × (slice_index_or row place false ≡ true) × (slice_index_or seen place false ≡ false)
