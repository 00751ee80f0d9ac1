use Rattle.std.proofs.Common.{◌≡◌, ◌≤◌, ◌-◌, ◌+◌, IsTrue, length, take, vec_len}
use Rattle.qm_surroundings.specs.HeldFile.{bytes_of_file}
use Rattle.qm_shelf.specs.SeenForms.{shelf_state}
use Rattle.qm_surroundings.specs.ShelfChanges.{IsKept, MetNoFault}
use Rattle.qm_shelf.specs.declared.shelf.TheConstants.{PIECE}
use Rattle.qm_shelf.proofs.reading.read_whole.Given as goal

-- the bytes so far are what the name's bytes begin with, and no fault was met
abbrev pub invariant-loop-shelf : goal.invariant-loop-shelf
invariant-loop-shelf g l = record {
  limit : vec_len l.bytes ≤ l.limit + 1;
  piece : length l.piece.items ≡ PIECE;
  so_far : IsTrue g.H.Shelf.tells → l.bytes.items ≡ take (vec_len l.bytes) (bytes_of_file (g.H.Shelf.held l.fn.shelf l.name));
  kept : IsKept (shelf_state g.H.Shelf l.fn.shelf) (shelf_state g.H.Shelf l.shelf);
  no_fault : MetNoFault (shelf_state g.H.Shelf l.fn.shelf) (shelf_state g.H.Shelf l.shelf);
}

abbrev pub decreases-loop-shelf : goal.decreases-loop-shelf
decreases-loop-shelf g l = l.limit + 1 - vec_len l.bytes
