use Rattle.std.proofs.Common.{take}
use Rattle.qm_blocking.specs.MovedSolids.{moved_side}
use Rattle.qm_brush.specs.inner.Entered.{AreFacesEntered}
use Rattle.qm_brush.proofs.moving.enter_moved_faces.Given as goal

-- the faces before have entered
abbrev pub invariant-loop-face : goal.invariant-loop-face
invariant-loop-face l = AreFacesEntered (moved_side l.cuboid) (take l.face-index l.faces) l.initial.into.items l.into.items l.initial.book l.book
