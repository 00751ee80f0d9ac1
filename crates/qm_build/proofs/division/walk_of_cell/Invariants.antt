use Rattle.std.specs.Prelude.{List, reverse}
use Rattle.qm_solids.specs.Solid.{Solid}
use Rattle.qm_split.specs.CellFragments.{cell_of_fragments}
use Rattle.qm_build.specs.inner.UnderWay.{AreFragments, weight, IsUnderWay}
use Rattle.qm_build.proofs.division.walk_of_cell.Given as goal

-- for all solids of which the cell has these fragments
abbrev pub invariant-loop-fragments : goal.invariant-loop-fragments
invariant-loop-fragments l = (solids : List Solid) → AreFragments solids l.book l.fn.fragments → IsUnderWay solids l.book (cell_of_fragments l.fn.fragments) l.pending.items l.walk.items

abbrev pub decreases-loop-fragments : goal.decreases-loop-fragments
decreases-loop-fragments l = weight (reverse l.pending.items)
