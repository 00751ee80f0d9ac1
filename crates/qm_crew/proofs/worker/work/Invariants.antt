use Rattle.qm_board.specs.PassOf.{findings_of}
use Rattle.qm_crew.specs.inner.PassOver.{IsPassOver}
use Rattle.qm_crew.specs.inner.TurnsTaken.{IsWorkBelow}
use Rattle.qm_crew.proofs.worker.work.Given as goal

-- the worker has done so much
abbrev pub invariant-loop-k : goal.invariant-loop-k
invariant-loop-k g l = record {
  pass : IsPassOver l.shared.world.now l.shared.board.now l.worker.pass;
  work : IsWorkBelow l.shared.world.now (findings_of l.worker.pass) l.worker.next l.worker.list.items;
}
