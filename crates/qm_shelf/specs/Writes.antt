use Rattle.std.specs.Prelude.{ℕ, ◌≡◌, ◌⊎◌, List, [], ◌++◌, Option, Some, IsSomeAnd}
use Rattle.qm_surroundings.specs.HeldFile.{bytes_of_file, ContinuesInto}

-- the file is held and has no bytes
abbrev pub IsEmptied : Option (List ℕ) → Type 0
IsEmptied after = after ≡ Some []

-- the file is as before, or is held and has no bytes
abbrev pub IsKeptOrEmptied : Option (List ℕ) → Option (List ℕ) → Type 0
IsKeptOrEmptied before after = (after ≡ before) ⊎ IsEmptied after

-- the file is held and grew by all of these bytes
abbrev pub IsAdded : Option (List ℕ) → List ℕ → Option (List ℕ) → Type 0
IsAdded before bytes after = after ≡ Some (bytes_of_file before ++ bytes)

-- the file is held and grew by some of the first of these bytes
abbrev pub IsPrefixAdded : Option (List ℕ) → List ℕ → Option (List ℕ) → Type 0
IsPrefixAdded before bytes after = IsSomeAnd after (ContinuesInto (bytes_of_file before) bytes)
