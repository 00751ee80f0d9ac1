use Rattle.qm_board.specs.PassOf.{IsPassOf}
use Rattle.crew_tests.proofs.reuse.publish_all.Given as goal

-- the pass is one of this board
abbrev pub invariant-loop-portal : goal.invariant-loop-portal
invariant-loop-portal l = IsPassOf l.board l.pass
