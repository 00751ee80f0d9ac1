use Rattle.qm_brush.proofs.ValidBrushes.{valid_world}
use Rattle.qm_brush.proofs.listing.brushes.Goals as goal

pub listed-requires-clause-valid : goal.listed-requires-clause-valid
listed-requires-clause-valid c = rw c.world_brushes.ensures (valid_world c.args.map.now c.requires.valid)
