use Rattle.std.proofs.Common.{◌≡◌, ◌+◌, ◌-◌, ◌≤◌, length}
use Rattle.qm_grammar.specs.Faults.{text_limit}
use Rattle.qm_shelf.specs.SeenForms.{shelf_state}
use Rattle.qm_shelf.specs.declared.shelf.TheConstants.{PIECE}
use Rattle.qm_surroundings.specs.ShelfState.{text_under}
use Rattle.qm_surroundings.specs.ShelfChanges.{IsKept, MetNoFault}
use Rattle.qm_make.specs.inner.Reading.{HasRead}
use Rattle.qm_make.proofs.reading.feed_pieces.Given as goal

-- so many bytes were read, and no fault was met
abbrev pub invariant-loop-done : goal.invariant-loop-done
invariant-loop-done g l = record {
  within : l.done ≤ text_limit + 1;
  room : length l.piece ≡ PIECE;
  so_far : HasRead g.H.Shelf.tells (text_under (shelf_state g.H.Shelf l.fn.shelf) l.name) l.done l.reader;
  kept : IsKept (shelf_state g.H.Shelf l.fn.shelf) (shelf_state g.H.Shelf l.shelf);
  no_fault : MetNoFault (shelf_state g.H.Shelf l.fn.shelf) (shelf_state g.H.Shelf l.shelf);
}

abbrev pub decreases-loop-done : goal.decreases-loop-done
decreases-loop-done g l = text_limit + 1 - l.done
