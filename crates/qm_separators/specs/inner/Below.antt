use Rattle.std.specs.Prelude.{ℕ, ◌<◌}
use Rattle.qm_space.specs.Plane.{Plane}

-- the plane has the property of some place below a number
abbrev pub HasBelow : ℕ → (ℕ → Plane → Type 0) → Plane → Type 0
HasBelow n Has h = (i : ℕ) × (i < n) × Has i h
