use Rattle.std.specs.Prelude.{ℕ}
use Rattle.std.specs.Int.{◌∣◌}

-- a number divides four numbers, and whatever divides them all divides it
pub record IsGreatestDivisor (a b c d g : ℕ) : Type 0 where
  pub first : g ∣ a
  pub second : g ∣ b
  pub third : g ∣ c
  pub fourth : g ∣ d
  pub greatest : (k : ℕ) → k ∣ a → k ∣ b → k ∣ c → k ∣ d → k ∣ g
