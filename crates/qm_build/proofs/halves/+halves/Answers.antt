use Rattle.std.proofs.Common.{arith}
use Rattle.std.proofs.lemmas.Result.{on_ok_weaker}
use Rattle.qm_split.specs.CellFragments.{cell_of_fragments}
use Rattle.qm_build.specs.inner.Visited.{is_node}
use Rattle.qm_build.proofs.Visits.{begins, ends, visited, next_are}
use Rattle.qm_build.proofs.WalkedHalves.{front_are, back_are, visited_leaf, visited_both, sides_of_top}
use Rattle.qm_build.proofs.Weights.{less_to_do}
use Rattle.qm_build.proofs.halves.+halves.Goals as goal

pub walk_in_halves-loop-fragments-init : goal.walk_in_halves-loop-fragments-init
walk_in_halves-loop-fragments-init g t c = λ solids are.
    rw (c.in_ok-push.ensures.items, c.new-pending.ensures.items, c.new-walk.ensures.items) (begins solids c.args.book.now c.args.fragments are)

pub walk_in_halves-visit_in_halves-requires-clause-known : goal.walk_in_halves-visit_in_halves-requires-clause-known
walk_in_halves-visit_in_halves-requires-clause-known g t c κs within = (
  c.requires.known.0,
  next_are c.requires.known.0 c.args.book.now (cell_of_fragments c.args.fragments) c.in-Some.fragments c.pop.new.self.items c.loop-fragments.walk.items c.loop-fragments.pending.items c.in-Some.ensures.items (c.loop-fragments.invariant c.requires.known.0 c.requires.known.1),
)

pub walk_in_halves-loop-fragments-preserved : goal.walk_in_halves-loop-fragments-preserved
walk_in_halves-loop-fragments-preserved g t c = λ solids are.
    let root = cell_of_fragments c.args.fragments in
    let way = c.loop-fragments.invariant solids are in
    let next = next_are solids c.args.book.now root c.in-Some.fragments c.pop.new.self.items c.loop-fragments.walk.items c.loop-fragments.pending.items c.in-Some.ensures.items way in
    visited solids c.args.book.now root c.in-Some.fragments c.pop.new.self.items c.loop-fragments.walk.items c.loop-fragments.pending.items c.visit_in_halves.new.pending.items c.visit_in_halves.new.walk.items c.in-Some.ensures.items (c.in_ok-visit_in_halves.ensures solids next) way

pub walk_in_halves-loop-fragments-smaller : goal.walk_in_halves-loop-fragments-smaller
walk_in_halves-loop-fragments-smaller g t c =
    let solids = c.requires.known.0 in
    let next = next_are solids c.args.book.now (cell_of_fragments c.args.fragments) c.in-Some.fragments c.pop.new.self.items c.loop-fragments.walk.items c.loop-fragments.pending.items c.in-Some.ensures.items (c.loop-fragments.invariant solids c.requires.known.1) in
    less_to_do solids c.args.book.now c.in-Some.fragments c.loop-fragments.pending.items c.pop.new.self.items c.loop-fragments.walk.items c.visit_in_halves.new.pending.items c.visit_in_halves.new.walk.items c.in-Some.ensures.items (c.in_ok-visit_in_halves.ensures solids next)

pub walk_in_halves-returns : goal.walk_in_halves-returns
walk_in_halves-returns g t c = λ solids are.
    ends solids c.args.book.now (cell_of_fragments c.args.fragments) c.loop-fragments.pending.items c.loop-fragments.walk.items (omega (arith, c.in_default.ensures.cases, c.loop-fragments.pending.ok.0)) (c.loop-fragments.invariant solids are)

pub visit_in_halves-returns-in_ok-push-in-Leaf : goal.visit_in_halves-returns-in_ok-push-in-Leaf
visit_in_halves-returns-in_ok-push-in-Leaf g t c = λ solids are.
    visited_leaf solids c.args.halving.now.book.now c.args.fragments c.in-Leaf.leaf _ _ _ _ c.in-Leaf.is (c.in_ok-leaf.ensures solids are) c.in_ok-push-in-Leaf.ensures.items

pub visit_in_halves-walk_both-requires-clause-front : goal.visit_in_halves-walk_both-requires-clause-front
visit_in_halves-walk_both-requires-clause-front g t c κs within = (
  c.requires.known.0,
  front_are c.requires.known.0 c.args.halving.now.book.now c.args.fragments
      (sides_of_top c.requires.known.0 c.args.halving.now.book.now c.args.fragments c.in-Node.number c.in-Node.halves _ c.in-Node.is (c.in_ok-leaf.ensures c.requires.known.0 c.requires.known.1)),
)

pub visit_in_halves-walk_both-requires-clause-back : goal.visit_in_halves-walk_both-requires-clause-back
visit_in_halves-walk_both-requires-clause-back g t c κs within = (
  c.requires.known.0,
  back_are c.requires.known.0 c.args.halving.now.book.now c.args.fragments
      (sides_of_top c.requires.known.0 c.args.halving.now.book.now c.args.fragments c.in-Node.number c.in-Node.halves _ c.in-Node.is (c.in_ok-leaf.ensures c.requires.known.0 c.requires.known.1)),
)

pub visit_in_halves-returns-then-are_large : goal.visit_in_halves-returns-then-are_large
visit_in_halves-returns-then-are_large g t c = on_ok_weaker c.walk_both.result
    (λ both. λ solids are.
    let sides = sides_of_top solids c.args.halving.now.book.now c.args.fragments c.in-Node.number c.in-Node.halves _ c.in-Node.is (c.in_ok-leaf.ensures solids are) in
    visited_both solids c.args.halving.now.book.now c.args.fragments c.in-Node.number c.in-Node.halves _ _ _ _ sides c.in_ok-push-in-Node.ensures.items
    (both solids (front_are solids c.args.halving.now.book.now c.args.fragments sides) (back_are solids c.args.halving.now.book.now c.args.fragments sides)))
    c.walk_both.ensures

pub visit_in_halves-returns-else-halving-lt-MOST_ABOVE : goal.visit_in_halves-returns-else-halving-lt-MOST_ABOVE
visit_in_halves-returns-else-halving-lt-MOST_ABOVE g t c = on_ok_weaker c.wait.result
    (λ waits. λ solids are.
    is_node (sides_of_top solids c.args.halving.now.book.now c.args.fragments c.in-Node.number c.in-Node.halves _ c.in-Node.is (c.in_ok-leaf.ensures solids are)) waits c.in_ok-push-in-Node.ensures.items)
    c.wait.ensures
