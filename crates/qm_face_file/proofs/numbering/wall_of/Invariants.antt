use Rattle.std.proofs.Common.{ℕ, ◌<◌}
use Rattle.qm_face_file.specs.inner.OnWalls.{IsOnWall}
use Rattle.qm_face_file.proofs.numbering.wall_of.Given as goal

-- the plane lies on none of the first walls
abbrev pub invariant-loop-place : goal.invariant-loop-place
invariant-loop-place l = (k : ℕ) → k < l.place → IsOnWall l.plane k → ⊥
