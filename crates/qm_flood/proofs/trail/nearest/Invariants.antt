use Rattle.std.proofs.Common.{◌≢◌, ◌<◌, ℕ, get_or}
use Rattle.qm_lists.specs.inner.Steps.{steps_of}
use Rattle.qm_flood.proofs.trail.nearest.Given as goal

-- none of the leaves so far has as many steps as are wanted
abbrev pub invariant-loop-other : goal.invariant-loop-other
invariant-loop-other l = (j : ℕ) → j < l.other-index → steps_of l.steps (get_or l.other-items j 0) ≢ l.wanted
