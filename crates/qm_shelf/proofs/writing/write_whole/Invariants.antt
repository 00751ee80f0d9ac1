use Rattle.std.proofs.Common.{length, ◌-◌, ◌≡◌, ◌≤◌, IsTrue, take, Some}
use Rattle.qm_shelf.specs.SeenForms.{shelf_state}
use Rattle.qm_surroundings.specs.ShelfChanges.{IsKeptElsewhere, MetNoFault}
use Rattle.qm_shelf.proofs.writing.write_whole.Given as goal

-- the file holds what was written so far, every other file is as it was, and no fault was met
abbrev pub invariant-loop-written : goal.invariant-loop-written
invariant-loop-written g l = record {
  within : l.written ≤ length l.bytes;
  so_far : IsTrue g.H.Shelf.tells → g.H.Shelf.held l.shelf l.name ≡ Some (take l.written l.bytes);
  kept_elsewhere : IsKeptElsewhere (shelf_state g.H.Shelf l.fn.shelf) (shelf_state g.H.Shelf l.shelf) l.name;
  no_fault : MetNoFault (shelf_state g.H.Shelf l.fn.shelf) (shelf_state g.H.Shelf l.shelf);
}

abbrev pub decreases-loop-written : goal.decreases-loop-written
decreases-loop-written g l = length l.bytes - l.written
