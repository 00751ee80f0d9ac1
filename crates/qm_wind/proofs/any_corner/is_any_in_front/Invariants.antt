use Rattle.std.proofs.Common.{ℕ, ◌<◌, pos, ◌≤ℤ◌}
use Rattle.qm_space.specs.Plane.{value}
use Rattle.qm_convex.specs.Winding.{corner_at}
use Rattle.qm_wind.proofs.any_corner.is_any_in_front.Given as goal

-- none of those before is
abbrev pub invariant-loop-i : goal.invariant-loop-i
invariant-loop-i l = (k : ℕ) → k < l.i → value l.plane (corner_at (record { plane = l.on; edges = l.edges }) k) ≤ℤ pos 0
