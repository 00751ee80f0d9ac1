use Rattle.std.proofs.Common.{take}
use Rattle.qm_flood.specs.inner.Spreading.{GoesOnToOneOf}
use Rattle.qm_flood.proofs.spreading.go_on.Given as goal

-- it has gone on to the others so far
abbrev pub invariant-loop-other : goal.invariant-loop-other
invariant-loop-other l = GoesOnToOneOf l.tree (take l.other-index l.others) l.leaf l.fn.steps.items l.steps.items l.fn.found.items l.found.items
