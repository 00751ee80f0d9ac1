use Rattle.std.specs.Prelude.{◌≡◌, ◌≤◌, ℕ, List, Option, Some, None}
use Rattle.std.specs.Fmt.{decimal}

-- how many workers are asked for: 1 to 64, as a number without a sign or a leading zero; where none is said, 1
abbrev pub AreThreads : Option (List ℕ) → ℕ → Type 0
AreThreads None threads = threads ≡ 1
AreThreads (Some text) threads = (text ≡ decimal threads) × (1 ≤ threads) × (threads ≤ 64)
