use Rattle.std.proofs.Common.{All, take}
use Rattle.qm_convex.specs.Winding.{IsConvex}
use Rattle.qm_split.specs.inner.Parts.{IsNotAhead}
use Rattle.qm_split.proofs.contender.is_inside.Given as goal

abbrev pub invariant-loop-face : goal.invariant-loop-face
invariant-loop-face l = IsConvex l.section → All (IsNotAhead l.section l.plane) (take l.face-index l.outward)
