use Rattle.std.specs.Prelude.{Some}
use Rattle.qm_portal.specs.inner.Pushes.{weight_at, GoesDown}
use Rattle.qm_portal.proofs.pushing.descend.Given as goal

abbrev pub invariant-loop-at : goal.invariant-loop-at
invariant-loop-at l = GoesDown l.tree l.fn.winding l.fn.child l.winding (Some l.at) l.fn.due.items l.due.items

abbrev pub decreases-loop-at : goal.decreases-loop-at
decreases-loop-at l = weight_at l.tree l.at
