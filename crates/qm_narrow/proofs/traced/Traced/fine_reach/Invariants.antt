use Rattle.qm_narrow.specs.inner.Look.{IsFineReach}
use Rattle.qm_narrow.proofs.traced.Traced.fine_reach.Given as goal

-- the reach by the corners before
abbrev pub invariant-loop-spot : goal.invariant-loop-spot
invariant-loop-spot l = IsFineReach l.self l.normal l.reach
