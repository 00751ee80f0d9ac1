use Rattle.std.specs.Prelude.{ℕ, ◌≡◌, ◌++◌, IsTrue, List}
use Rattle.qm_surroundings.specs.Counts.{Rose}
use Rattle.qm_surroundings.specs.SinkState.{SinkState}
use Rattle.qm_surroundings.specs.HeldFile.{ContinuesInto}

-- What happened to a sink between two moments.

-- no fault of printing was counted
abbrev pub PrintedWithoutFault : SinkState → SinkState → Type 0
PrintedWithoutFault before after = after.faults ≡ before.faults

-- printing failed: its count rose
abbrev pub FailedToPrint : SinkState → SinkState → Type 0
FailedToPrint before after = Rose before.faults after.faults

-- all of a text was printed, and printing did not fail
pub record IsPrinted (before after : SinkState) (text : List ℕ) : Type 0 where
  pub printed : IsTrue before.tells → after.printed ≡ before.printed ++ text
  pub faults : PrintedWithoutFault before after

-- some of the first bytes of a text were printed: none, all, or any number between
abbrev pub IsPartlyPrinted : SinkState → SinkState → List ℕ → Type 0
IsPartlyPrinted before after text = IsTrue before.tells → ContinuesInto before.printed text after.printed
