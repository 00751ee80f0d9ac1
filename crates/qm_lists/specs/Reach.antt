use Rattle.std.specs.Prelude.{ℕ}

-- a place is reached: it begins, or one that is reached goes to it
pub data Reach (begins : ℕ → Type 0) (goes : ℕ → ℕ → Type 0) : ℕ → Type 0 where
  start : {place : ℕ} → begins place → Reach begins goes place
  onward : {from to : ℕ} → Reach begins goes from → goes from to → Reach begins goes to
