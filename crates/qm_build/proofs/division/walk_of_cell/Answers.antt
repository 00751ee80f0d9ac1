use Rattle.std.proofs.Common.{List, arith}
use Rattle.qm_solids.specs.Solid.{Solid}
use Rattle.qm_split.specs.CellFragments.{cell_of_fragments}
use Rattle.qm_build.specs.inner.UnderWay.{AreFragments}
use Rattle.qm_build.proofs.Visits.{begins, ends, visited, next_are}
use Rattle.qm_build.proofs.Weights.{less_to_do}
use Rattle.qm_build.proofs.division.walk_of_cell.Goals as goal
use Rattle.qm_build.proofs.division.walk_of_cell.Goals.{In-Some}

pub loop-fragments-init : goal.loop-fragments-init
loop-fragments-init c = λ solids are.
    rw (c.in_ok-push.ensures.items, c.new-pending.ensures.items, c.new-walk.ensures.items) (begins solids c.args.book.now c.args.fragments are)

-- the next fragments are those of a cell
next : (c : In-Some) (solids : List Solid) → AreFragments solids c.args.book.now c.args.fragments → AreFragments solids c.args.book.now c.in-Some.fragments
next c solids are =
    next_are solids c.args.book.now (cell_of_fragments c.args.fragments) c.in-Some.fragments c.pop.new.self.items c.loop-fragments.walk.items c.loop-fragments.pending.items c.in-Some.ensures.items (c.loop-fragments.invariant solids are)

pub visit-requires : goal.visit-requires
visit-requires c = (c.requires.0, next (goal.at.visit-requires c).In-Some c.requires.0 c.requires.1)

pub loop-fragments-preserved : goal.loop-fragments-preserved
loop-fragments-preserved c = λ solids are.
    let visit = c.in_ok-visit.ensures solids (next (goal.at.loop-fragments-preserved c).In-Some solids are) in
    visited solids c.args.book.now (cell_of_fragments c.args.fragments) c.in-Some.fragments c.pop.new.self.items c.loop-fragments.walk.items c.loop-fragments.pending.items c.visit.new.pending.items c.visit.new.walk.items c.in-Some.ensures.items visit (c.loop-fragments.invariant solids are)

pub loop-fragments-smaller : goal.loop-fragments-smaller
loop-fragments-smaller c =
    let visit = c.in_ok-visit.ensures c.requires.0 (next (goal.at.loop-fragments-smaller c).In-Some c.requires.0 c.requires.1) in
    less_to_do c.requires.0 c.args.book.now c.in-Some.fragments c.loop-fragments.pending.items c.pop.new.self.items c.loop-fragments.walk.items c.visit.new.pending.items c.visit.new.walk.items c.in-Some.ensures.items visit

pub returns : goal.returns
returns c = λ solids are.
    ends solids c.args.book.now (cell_of_fragments c.args.fragments) c.loop-fragments.pending.items c.loop-fragments.walk.items (omega (arith, c.in_default.ensures.cases, c.loop-fragments.pending.ok.0)) (c.loop-fragments.invariant solids are)
