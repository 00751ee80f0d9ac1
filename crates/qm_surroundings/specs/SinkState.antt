use Rattle.std.specs.Prelude.{ℕ, Bool, List}

-- a sink at one moment: whether it tells what was printed, what was printed so far, and its count of faults
pub record SinkState : Type 0 where
  pub tells : Bool
  pub printed : List ℕ
  pub faults : ℕ
