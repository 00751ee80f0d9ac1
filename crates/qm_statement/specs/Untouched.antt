use Rattle.qm_surroundings.specs.ShelfState.{ShelfState}
use Rattle.qm_surroundings.specs.ShelfChanges.{IsKept, MetNoFault}

-- the shelf holds what it held, and no call of it failed
pub record IsUntouched (before after : ShelfState) : Type 0 where
  pub kept : IsKept before after
  pub no_fault : MetNoFault before after
