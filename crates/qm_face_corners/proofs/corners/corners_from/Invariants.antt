use Rattle.std.proofs.Common.{◌≡◌}
use Rattle.qm_face_corners.specs.inner.CornerParts.{AreSomeCorners}
use Rattle.qm_face_corners.proofs.corners.corners_from.Given as goal

-- so many corners are there, by numbers of the same planes
abbrev pub invariant-loop-i : goal.invariant-loop-i
invariant-loop-i l = record {
  same : l.numbers ≡ l.fn.numbers;
  corners : AreSomeCorners l.fn.numbers l.winding l.backward l.first l.i l.corners.items;
}
