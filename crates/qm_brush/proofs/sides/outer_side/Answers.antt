use Rattle.qm_solids.proofs.FaceSides.{outer_at_back}
use Rattle.qm_brush.proofs.sides.outer_side.Goals as goal

pub returns-else-face : goal.returns-else-face
returns-else-face c =
    rw c.reverse.ensures (outer_at_back c.args.planes.now c.args.face.now c.index-planes-face.result c.args.at.now c.side-side.result c.if-face.false c.requires c.index-planes-face.is c.side-side.ensures)
