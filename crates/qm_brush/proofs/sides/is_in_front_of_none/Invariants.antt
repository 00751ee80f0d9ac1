use Rattle.std.proofs.Common.{take, All}
use Rattle.qm_space.specs.Plane.{IsNotInFront}
use Rattle.qm_solids.specs.declared.face.FaceRef.{FaceRef}
use Rattle.qm_solids.specs.Outward.{outward_of}
use Rattle.qm_brush.proofs.sides.is_in_front_of_none.Given as goal

-- the point is in front of no face before
abbrev pub invariant-loop-face : goal.invariant-loop-face
invariant-loop-face l = All (λ (face : FaceRef). IsNotInFront (outward_of l.planes face) l.at) (take l.face-index l.faces)
