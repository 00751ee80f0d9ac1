use Rattle.std.proofs.Common.{take, All}
use Rattle.qm_space.specs.Plane.{IsBehind}
use Rattle.qm_solids.specs.declared.face.FaceRef.{FaceRef}
use Rattle.qm_solids.specs.Outward.{outward_of}
use Rattle.qm_brush.proofs.sides.is_inside.Given as goal

-- the point is strictly behind each face before
abbrev pub invariant-loop-face : goal.invariant-loop-face
invariant-loop-face l = All (λ (face : FaceRef). IsBehind (outward_of l.planes face) l.at) (take l.face-index l.faces)
