use Rattle.std.specs.Prelude.{ℕ, ◌+◌, ◌-◌, ◌^◌, Bool, List, nat_lt, ◌==◌, if◌then◌else◌}
use Rattle.std.specs.List.{list_any}

-- one more than a count, which stays at its type's end once it is there
abbrev pub one_more : ℕ → ℕ
one_more count = if nat_lt count (2 ^ 64 - 1) then count + 1 else count

-- a count, and one more where a call failed
abbrev pub raised_if : Bool → ℕ → ℕ
raised_if fails count = if fails then one_more count else count

-- whether a call's number is among those that fail
abbrev pub is_listed : ℕ → List ℕ → Bool
is_listed call failing = list_any (λ number. number == call) failing
