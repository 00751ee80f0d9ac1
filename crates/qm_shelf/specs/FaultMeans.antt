use Rattle.std.specs.Prelude.{ℕ, List}
use Rattle.qm_surroundings.specs.ShelfChanges.{MetNoFault, FailedToRead, FailedToWrite}
use Rattle.qm_surroundings.specs.ShelfState.{ShelfState}
use Rattle.qm_shelf.specs.declared.shelf.ShelfFault.{ShelfFault}
use Rattle.qm_shelf.specs.declared.shelf.ShelfFault.TheVariants.{Failed, Memory}

-- What a fault of a shelf means.

-- what a fault of reading a name means: reading failed, or memory ran out and nothing failed
abbrev pub ReadFaultMeans : ShelfState → ShelfState → List ℕ → ShelfFault → Type 0
ReadFaultMeans before after name Failed = FailedToRead before after name
ReadFaultMeans before after name Memory = MetNoFault before after

-- what a fault of writing a name means: writing failed, or memory ran out and nothing failed
abbrev pub WriteFaultMeans : ShelfState → ShelfState → List ℕ → ShelfFault → Type 0
WriteFaultMeans before after name Failed = FailedToWrite before after name
WriteFaultMeans before after name Memory = MetNoFault before after
