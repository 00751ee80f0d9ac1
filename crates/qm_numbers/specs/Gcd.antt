use Rattle.std.specs.Prelude.{ℕ, zero, suc, ◌%◌}

-- The greatest common divisor as code finds it.

-- Euclid's remainders, for at most so many turns
unfoldable pub gcd_within : ℕ → ℕ → ℕ → ℕ
gcd_within zero a b = a
gcd_within (suc turns) a zero = a
gcd_within (suc turns) a (suc b) = gcd_within turns (suc b) (a % suc b)

-- the greatest common divisor; each turn makes the second number less, so one turn more than it is enough
unfoldable pub gcd : ℕ → ℕ → ℕ
gcd a b = gcd_within (suc b) a b
