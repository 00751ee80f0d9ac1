use Rattle.std.proofs.Common.{[], ◌∷◌}
use Rattle.qm_space.proofs.LeastDistances.{IsLeastSoFar}
use Rattle.qm_convex.specs.Winding.{corners}
use Rattle.qm_narrow.proofs.traced.Traced.least_distance.Given as goal

-- the least for the corners before
abbrev pub invariant-loop-i : goal.invariant-loop-i
invariant-loop-i l = IsLeastSoFar (l.along.nx ∷ l.along.ny ∷ l.along.nz ∷ []) (corners l.self) l.i l.least
