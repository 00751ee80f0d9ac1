use Rattle.std.specs.Prelude.{sum_by}
use Rattle.qm_portal.specs.inner.Pushes.{polygon_weight, IsPushing}
use Rattle.qm_portal.proofs.pushing.push_down.Given as goal

abbrev pub invariant-loop-polygon : goal.invariant-loop-polygon
invariant-loop-polygon l = IsPushing l.tree l.fn.polygon l.due.items l.pieces.items

abbrev pub decreases-loop-polygon : goal.decreases-loop-polygon
decreases-loop-polygon l = sum_by (polygon_weight l.tree) l.due.items
