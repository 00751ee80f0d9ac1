use Rattle.qm_compiler.proofs.Origins.{AreGathered}
use Rattle.qm_compiler.proofs.entity_origins.origins_of.Given as goal

-- whatever the entities from this one on come to completes the origins
abbrev pub invariant-loop-k : goal.invariant-loop-k
invariant-loop-k l = AreGathered l.map l.k l.origins.items
