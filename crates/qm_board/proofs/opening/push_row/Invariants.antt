use Rattle.qm_board.specs.inner.WordsOfRows.{HasPushedRow}
use Rattle.qm_board.proofs.opening.push_row.Given as goal

-- so many words were appended
abbrev pub invariant-loop-k : goal.invariant-loop-k
invariant-loop-k l = HasPushedRow l.row l.k l.fn.words.items l.words.items
