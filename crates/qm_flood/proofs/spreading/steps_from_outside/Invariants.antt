use Rattle.std.proofs.Common.{◌-◌, length}
use Rattle.qm_flood.specs.inner.Spreading.{IsSpreading}
use Rattle.qm_flood.proofs.spreading.steps_from_outside.Given as goal

abbrev pub invariant-loop-passed : goal.invariant-loop-passed
invariant-loop-passed l = IsSpreading l.tree l.steps.items l.found.items l.passed

-- no more is found than there are leaves
abbrev pub decreases-loop-passed : goal.decreases-loop-passed
decreases-loop-passed l = length l.steps.items - l.passed
