use Rattle.std.specs.Prelude.{ℕ, Bool, List}
use Rattle.qm_lists.specs.WorkList.{IsIn}
use Rattle.qm_sight.specs.WordInSight.{ceiling_of}

-- the ceiling of the portal of number q has the leaf of number n
abbrev pub IsInCeiling : List (List Bool) → ℕ → ℕ → Type 0
IsInCeiling ceilings n q = IsIn (ceiling_of ceilings q) n
