use Rattle.qm_faces.proofs.CutParts.{on_way_ends}
use Rattle.qm_faces.proofs.carving.carve.Goals as goal

pub returns : goal.returns
returns c =
    on_way_ends c.args.planes.now c.args.plane c.args.faces.now c.args.part c.loop-face.face-index c.loop-face.part c.args.left.now.items c.loop-face.left.items c.args.left.now.items c.loop-face.invariant c.loop-face-test.false
