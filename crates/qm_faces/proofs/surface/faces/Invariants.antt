use Rattle.std.proofs.Common.{take}
use Rattle.qm_surface.specs.Surface.{AreFacePieces}
use Rattle.qm_faces.proofs.surface.faces.Given as goal

-- the pieces of the touching pairs before
abbrev pub invariant-loop-i : goal.invariant-loop-i
invariant-loop-i l = AreFacePieces l.tree l.list (take l.i l.touches.touchings) l.pieces.items
