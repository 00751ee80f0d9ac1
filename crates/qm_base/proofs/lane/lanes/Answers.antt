use Rattle.qm_base.proofs.LaneSteps.{lanes_in_order}
use Rattle.qm_base.proofs.lane.lanes.Goals as goal

pub returns : goal.returns
returns c = lanes_in_order c.args.world.now.portals c.in_ok-lanes.lanes.items c.sort_unstable.new.self.items c.in_ok-lanes.ensures c.sort_unstable.ensures.permutation
