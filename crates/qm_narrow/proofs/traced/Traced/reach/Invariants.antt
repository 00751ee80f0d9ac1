use Rattle.qm_narrow.specs.inner.Look.{IsReach}
use Rattle.qm_narrow.proofs.traced.Traced.reach.Given as goal

-- the reach by the corners before
abbrev pub invariant-loop-spot : goal.invariant-loop-spot
invariant-loop-spot l = IsReach l.self l.normal l.reach
