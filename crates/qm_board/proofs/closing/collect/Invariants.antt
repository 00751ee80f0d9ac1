use Rattle.std.specs.Mem.Slots.{slots_items}
use Rattle.qm_board.specs.inner.RowsOfWords.{AreRowsOfWords}
use Rattle.qm_board.proofs.closing.collect.Given as goal

-- so many rows were read
abbrev pub invariant-loop-portal : goal.invariant-loop-portal
invariant-loop-portal l = AreRowsOfWords (slots_items l.closed.words) l.portals l.width l.leaves l.portal l.rows.items
