use Rattle.std.proofs.Common.{◌≡◌, Option}
use Rattle.std.proofs.lemmas.Result.{IfOk-weaker}
use Rattle.qm_space.specs.Plane.{Plane, flipped}
use Rattle.qm_convex.specs.Winding.{Winding}
use Rattle.qm_solids.specs.Outward.{outward_of}
use Rattle.qm_faces.specs.inner.Cuts.{IsCutOnce, IsCutByFace}
use Rattle.qm_faces.proofs.CutParts.{face_cuts}
use Rattle.qm_faces.proofs.carving.cut_by_face.Goals as goal

pub returns : goal.returns
returns c =
    IfOk-weaker c.cut.result
    (λ (inner : Option Winding). (g : Plane) → c.inward_plane.result ≡ flipped g → IsCutOnce g c.args.part inner c.args.left.now.items c.cut.new.left.items)
    (λ (inner : Option Winding). IsCutByFace c.args.planes.now c.args.plane c.args.face.now c.args.part inner c.args.left.now.items c.cut.new.left.items)
    (λ inner cut.
    face_cuts c.args.planes.now c.args.plane c.args.face.now c.args.part inner c.args.left.now.items c.cut.new.left.items c.if-face-plane.false
    (cut (outward_of c.args.planes.now c.args.face.now) c.inward_plane.ensures))
    c.cut.ensures
