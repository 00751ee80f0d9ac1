use Rattle.std.specs.Prelude.{◌≡◌, ℕ, List, ◌++◌, length}

-- these first items were taken from a list, and n are left
pub record IsTakenFrom {X : Type 0} (done all rest : List X) (n : ℕ) : Type 0 where
  pub parts : done ++ rest ≡ all
  pub count : n ≡ length rest
