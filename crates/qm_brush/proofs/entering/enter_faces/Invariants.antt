use Rattle.std.proofs.Common.{take}
use Rattle.qm_mapfile.specs.Face.{face_plane}
use Rattle.qm_brush.specs.inner.Entered.{AreFacesEntered}
use Rattle.qm_brush.proofs.entering.enter_faces.Given as goal

-- the faces before have entered
abbrev pub invariant-loop-face : goal.invariant-loop-face
invariant-loop-face l = AreFacesEntered face_plane (take l.face-index l.faces) l.initial.into.items l.into.items l.initial.book l.book
