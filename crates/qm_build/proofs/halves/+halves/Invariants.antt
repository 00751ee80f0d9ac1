use Prim.Native.Nat.{◌+◌, ◌-◌, ◌*◌}
use Rattle.std.specs.Prelude.{List, reverse}
use Rattle.qm_solids.specs.Solid.{Solid}
use Rattle.qm_split.specs.CellFragments.{cell_of_fragments}
use Rattle.qm_build.specs.inner.UnderWay.{AreFragments, weight, IsUnderWay}
use Rattle.qm_build.proofs.halves.+halves.Given as goal

-- for all solids of which the cell has these fragments
abbrev pub invariant-walk_in_halves-loop-fragments : goal.invariant-walk_in_halves-loop-fragments
invariant-walk_in_halves-loop-fragments g l = (solids : List Solid) → AreFragments solids l.book l.fn.fragments → IsUnderWay solids l.book (cell_of_fragments l.fn.fragments) l.pending.items l.walk.items

abbrev pub decreases-walk_in_halves-loop-fragments : goal.decreases-walk_in_halves-loop-fragments
decreases-walk_in_halves-loop-fragments g l = weight (reverse l.pending.items)

-- each half stands below one more cell that is walked in halves
abbrev pub decreases-walk_in_halves : goal.decreases-walk_in_halves
decreases-walk_in_halves g l = 4 * (7 - l.above) + 3

abbrev pub decreases-visit_in_halves : goal.decreases-visit_in_halves
decreases-visit_in_halves g l = 4 * (7 - l.halving.now.above) + 2

abbrev pub decreases-walk_both : goal.decreases-walk_both
decreases-walk_both g l = 4 * (7 - l.halving.now.above) + 1

abbrev pub decreases-walk_both-before : goal.decreases-walk_both-before
decreases-walk_both-before g l = 4 * (7 - l.above)

abbrev pub decreases-walk_both-behind : goal.decreases-walk_both-behind
decreases-walk_both-behind g l = 4 * (7 - l.above)
