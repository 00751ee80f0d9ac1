use Rattle.std.specs.Prelude.{ℕ, List}
use Rattle.qm_surroundings.specs.Counts.{Rose, Stays, StaysElsewhere}
use Rattle.qm_surroundings.specs.ShelfState.{ShelfState}

-- What happened to a shelf between two moments.

-- the shelf holds what it held
abbrev pub IsKept : ShelfState → ShelfState → Type 0
IsKept before after = Stays before.held after.held

-- every file but this one is as it was
abbrev pub IsKeptElsewhere : ShelfState → ShelfState → List ℕ → Type 0
IsKeptElsewhere before after name = StaysElsewhere name before.held after.held

-- no count of faults of the shelf has changed
pub record MetNoFault (before after : ShelfState) : Type 0 where
  pub reads : Stays before.read_faults after.read_faults
  pub writes : Stays before.write_faults after.write_faults

-- reading a name failed: its count rose, and no write failed
pub record FailedToRead (before after : ShelfState) (name : List ℕ) : Type 0 where
  pub rose : Rose (before.read_faults name) (after.read_faults name)
  pub writes : Stays before.write_faults after.write_faults

-- writing a name failed: its count rose, and no read failed
pub record FailedToWrite (before after : ShelfState) (name : List ℕ) : Type 0 where
  pub rose : Rose (before.write_faults name) (after.write_faults name)
  pub reads : Stays before.read_faults after.read_faults
