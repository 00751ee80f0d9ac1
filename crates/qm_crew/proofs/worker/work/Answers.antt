use Rattle.std.proofs.Common.{sym, subst}
use Rattle.qm_board.specs.PassOf.{findings_of}
use Rattle.qm_crew.specs.inner.TurnsTaken.{IsWorkBelow}
use Rattle.qm_crew.proofs.WorkLists.{no_work}
use Rattle.qm_crew.proofs.worker.work.Goals as goal

pub loop-k-init : goal.loop-k-init
loop-k-init g c = record {
  pass = c.requires.pass;
  work = subst (IsWorkBelow c.args.shared.now.world.now (findings_of c.args.pass) 0) (sym c.new.ensures.items) (no_work c.args.shared.now.world.now (findings_of c.args.pass) c.requires.along);
}
