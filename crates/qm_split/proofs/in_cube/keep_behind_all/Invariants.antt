use Rattle.std.proofs.Common.{take, []}
use Rattle.qm_split.specs.inner.FacePieces.{IsFacePiece}
use Rattle.qm_split.proofs.in_cube.keep_behind_all.Given as goal

abbrev pub invariant-loop-face : goal.invariant-loop-face
invariant-loop-face l = IsFacePiece l.book l.number [] l.fn.winding → IsFacePiece l.book l.number (take l.face-index l.faces) l.left
