use Rattle.qm_surroundings.specs.ShelfState.{ShelfState}
use Rattle.qm_surroundings.specs.SinkState.{SinkState}

-- all that a program can change outside of itself, at one moment
pub record Surroundings : Type 0 where
  pub shelf : ShelfState
  pub sink : SinkState
