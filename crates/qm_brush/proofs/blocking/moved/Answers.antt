use Rattle.qm_brush.proofs.ValidBrushes.{valid_world}
use Rattle.qm_brush.proofs.MovedEnds.{box_moves}
use Rattle.qm_brush.proofs.blocking.moved.Goals as goal

pub listed_moved-requires-clause-valid : goal.listed_moved-requires-clause-valid
listed_moved-requires-clause-valid c = rw c.world_brushes.ensures (valid_world c.args.map.now c.requires.valid)

pub listed_moved-requires-clause-moving : goal.listed_moved-requires-clause-moving
listed_moved-requires-clause-moving c = rw c.box_between.ensures (box_moves c.args.lo c.args.hi c.requires.low c.requires.high)
