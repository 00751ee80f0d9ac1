use Rattle.std.proofs.lemmas.Result.{on_ok_weaker}
use Rattle.qm_build.specs.inner.Visited.{is_node}
use Rattle.qm_build.proofs.WalkedHalves.{visited_leaf, sides_of_top}
use Rattle.qm_build.proofs.division.visit.Goals as goal

pub returns-in_ok-push-in-Leaf : goal.returns-in_ok-push-in-Leaf
returns-in_ok-push-in-Leaf c = λ solids are.
    visited_leaf solids c.args.book.now c.args.fragments c.in-Leaf.leaf _ _ _ _ c.in-Leaf.is (c.in_ok-leaf.ensures solids are) c.in_ok-push-in-Leaf.ensures.items

pub returns-in_ok-push-in-Node : goal.returns-in_ok-push-in-Node
returns-in_ok-push-in-Node c = on_ok_weaker c.wait.result
    (λ waits. λ solids are.
    is_node (sides_of_top solids c.args.book.now c.args.fragments c.in-Node.number c.in-Node.halves _ c.in-Node.is (c.in_ok-leaf.ensures solids are)) waits c.in_ok-push-in-Node.ensures.items)
    c.wait.ensures
