use Rattle.qm_board.specs.inner.WordsOfRows.{AreFirstRows}
use Rattle.qm_board.proofs.opening.flatten.Given as goal

-- so many rows were written down
abbrev pub invariant-loop-portal : goal.invariant-loop-portal
invariant-loop-portal l = AreFirstRows l.portals l.width l.rows l.portal l.words.items
