use Rattle.qm_base.proofs.RowSteps.{BlocksSoFar}
use Rattle.qm_base.proofs.finding.base.Given as goal

abbrev pub invariant-loop-block : goal.invariant-loop-block
invariant-loop-block l = BlocksSoFar l.world l.lane_world.table.now.lanes.items l.block l.ways.items l.rows.items
