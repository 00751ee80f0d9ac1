use Rattle.std.specs.Prelude.{ℕ, ◌≡◌, List, Result, Ok, Err}
use Rattle.qm_surroundings.specs.Counts.{Rose, Stays}
use Rattle.qm_shelf.specs.declared.shelf.ShelfFault.{ShelfFault}
use Rattle.qm_shelf.specs.declared.shelf.ShelfFault.TheVariants as shelf_fault
use Rattle.qm_shelf.specs.declared.sink.SinkFault.{SinkFault}
use Rattle.qm_shelf.specs.declared.sink.SinkFault.TheVariants as sink_fault

-- What a call does to the counts of faults.

-- a call that met this fault: where it failed it raised the count of its name, and else it left the counts of all names
abbrev pub ShelfFaultCounted : ShelfFault → List ℕ → (List ℕ → ℕ) → (List ℕ → ℕ) → Type 0
ShelfFaultCounted shelf_fault.Failed name before after = Rose (before name) (after name)
ShelfFaultCounted shelf_fault.Memory name before after = Stays before after

-- a call that failed raised the count of its name, and any other call left the counts of all names
abbrev pub ShelfCounted : {T : Type 0} → Result T ShelfFault → List ℕ → (List ℕ → ℕ) → (List ℕ → ℕ) → Type 0
ShelfCounted (Ok _) name before after = Stays before after
ShelfCounted (Err fault) name before after = ShelfFaultCounted fault name before after

-- a call that met this fault: where it failed it raised the count, and else it left it
abbrev pub SinkFaultCounted : SinkFault → ℕ → ℕ → Type 0
SinkFaultCounted sink_fault.Failed before after = Rose before after
SinkFaultCounted sink_fault.Memory before after = after ≡ before

-- a call that failed raised the count, and any other call left it
abbrev pub SinkCounted : {T : Type 0} → Result T SinkFault → ℕ → ℕ → Type 0
SinkCounted (Ok _) before after = after ≡ before
SinkCounted (Err fault) before after = SinkFaultCounted fault before after
