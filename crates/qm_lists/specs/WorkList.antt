use Rattle.std.specs.Prelude.{◌≡◌, ℕ, Bool, true, false, List, slice_index_or}

-- A set of places is a row with a Bool for each.

-- the row has the place
abbrev pub IsIn : List Bool → ℕ → Type 0
IsIn row place = slice_index_or row place false ≡ true
