use Rattle.qm_brush.proofs.ValidBrushes.{valid_entity}
use Rattle.qm_brush.proofs.listing.brushes_of.Goals as goal

pub listed-requires-clause-valid : goal.listed-requires-clause-valid
listed-requires-clause-valid c = rw c.entity_brushes.ensures (valid_entity c.args.map.now c.requires.valid c.args.entity c.requires.there)
