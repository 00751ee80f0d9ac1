use Rattle.std.proofs.Common.{take}
use Rattle.qm_split.specs.inner.FacePieces.{HasFacePieces}
use Rattle.qm_split.proofs.in_cube.pieces_in_cube.Given as goal

abbrev pub invariant-loop-face : goal.invariant-loop-face
invariant-loop-face l = HasFacePieces l.book l.faces (take l.face-index l.faces) l.pieces.items
