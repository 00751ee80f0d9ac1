use Rattle.qm_base.proofs.RowSteps.{WrittenSoFar}
use Rattle.qm_base.proofs.finding.add_block.Given as goal

abbrev pub invariant-loop-j : goal.invariant-loop-j
invariant-loop-j l = WrittenSoFar l.fn.lane_world.world.now l.lanes l.j l.fn.rows l.rows
