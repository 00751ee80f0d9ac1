use Rattle.qm_shared_rows.specs.RowSets.{RowSets}
use Rattle.qm_shared_rows.specs.SharedRows.{SharedRows}
use Rattle.qm_shared_rows.specs.Steps.{IsBoardStep}

-- A state comes from another by a list of steps, in any order and of any passes.
pub data ComesFrom (sets : RowSets) (first : SharedRows) : SharedRows → Type 0 where
  no_step : ComesFrom sets first first
  step_more : {old new : SharedRows} → ComesFrom sets first old → IsBoardStep sets old new → ComesFrom sets first new
