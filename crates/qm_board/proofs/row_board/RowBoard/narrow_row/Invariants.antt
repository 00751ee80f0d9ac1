use Rattle.qm_board.specs.PassOf.{findings_of, IsPassOf}
use Rattle.qm_board.specs.Published.{HasWordsUpTo}
use Rattle.qm_board.proofs.row_board.RowBoard.narrow_row.Given as goal

-- so many words were narrowed
abbrev pub invariant-loop-k : goal.invariant-loop-k
invariant-loop-k l = record {
  pass : IsPassOf l.self l.pass;
  narrowed : HasWordsUpTo l.portal l.row l.k (findings_of l.fn.pass) (findings_of l.pass);
}
