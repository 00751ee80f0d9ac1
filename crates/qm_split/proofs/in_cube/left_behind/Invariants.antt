use Rattle.std.proofs.Common.{take}
use Rattle.qm_split.specs.inner.FacePieces.{LeavesAllBehind}
use Rattle.qm_split.proofs.in_cube.left_behind.Given as goal

abbrev pub invariant-loop-face : goal.invariant-loop-face
invariant-loop-face l = LeavesAllBehind l.fn.cuboid (take l.face-index l.outward) l.left
