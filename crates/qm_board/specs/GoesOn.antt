use Rattle.std.specs.Prelude.{ℕ, Contains}
use Rattle.qm_shared_rows.specs.Findings.{Ceiling, DoneWord, Findings}

-- a pass has found all that it had before, and perhaps more
pub record HasMore (old new : Findings) : Type 0 where
  pub ceilings : (ceiling : Ceiling) → Contains old.ceilings ceiling → Contains new.ceilings ceiling
  pub known : (portal : ℕ) → Contains old.known portal → Contains new.known portal
  pub found : (word : DoneWord) → Contains old.found word → Contains new.found word
  pub drawn : (number : ℕ) → Contains old.drawn number → Contains new.drawn number
