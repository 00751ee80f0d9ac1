use Rattle.std.specs.Prelude.{◌≡◌, ◌⊎◌, ℕ, List, Some, slice_get}
use Rattle.qm_space.specs.Plane.{Plane}

-- one of two planes has this number
abbrev pub IsEitherAt : List Plane → Plane → Plane → ℕ → Type 0
IsEitherAt planes first second n = (slice_get planes n ≡ Some first) ⊎ (slice_get planes n ≡ Some second)
