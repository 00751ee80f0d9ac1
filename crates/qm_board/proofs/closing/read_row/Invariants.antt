use Rattle.std.proofs.Common.{length}
use Rattle.std.specs.Mem.Slots.{slots_items}
use Rattle.qm_board.specs.inner.RowsOfWords.{IsRowUpTo}
use Rattle.qm_board.proofs.closing.read_row.Given as goal

-- so many words were read
abbrev pub invariant-loop-k : goal.invariant-loop-k
invariant-loop-k l = IsRowUpTo (slots_items l.closed.words) l.place (length l.full) l.k l.row
