use Rattle.std.specs.Prelude.{ℕ, zero, suc, ◌+◌, Bool, false, List, [], ◌∷◌, ◌++◌, slice_index_or, if◌then◌else◌}
use Rattle.std.specs.Fmt.{decimal}

-- the number of a place after a space, where it is set; a place past the end of the row counts as clear
abbrev pub place_words : List Bool → ℕ → List ℕ
place_words row place = if slice_index_or row place false then 32 ∷ decimal place else []

-- those of so many places from one on
unfoldable pub run_words : List Bool → ℕ → ℕ → List ℕ
run_words row first zero = []
run_words row first (suc n) = run_words row first n ++ place_words row (first + n)
