use Rattle.qm_space.proofs.LeastDistances.{IsLeastSoFar}
use Rattle.qm_geom.proofs.distance.least_distance.Given as goal

abbrev pub invariant-loop-corner : goal.invariant-loop-corner
invariant-loop-corner l = IsLeastSoFar l.normal l.corners l.corner-index l.least
