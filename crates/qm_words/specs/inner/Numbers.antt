use Rattle.std.specs.Prelude.{◌≡◌, ◌≤◌, ℕ, List}
use Rattle.std.specs.Fmt.{decimal}

-- a text writes a number from 1 to 64
abbrev pub IsCount : List ℕ → ℕ → Type 0
IsCount text n = (text ≡ decimal n) × (1 ≤ n) × (n ≤ 64)
