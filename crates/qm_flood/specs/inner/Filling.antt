use Rattle.std.specs.Prelude.{◌≡◌, ◌<◌, ℕ, Bool, List, length, ◌↔◌}
use Rattle.qm_lists.specs.WorkList.{IsIn}
use Rattle.qm_lists.specs.inner.Steps.{steps_of}

-- the row has exactly the places that have steps
pub record HasThoseWithSteps (steps : List ℕ) (row : List Bool) : Type 0 where
  pub one_each : length row ≡ length steps
  pub places : (k : ℕ) → IsIn row k ↔ (0 < steps_of steps k)
