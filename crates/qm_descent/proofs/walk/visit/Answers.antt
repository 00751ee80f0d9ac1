use Rattle.std.proofs.Common.{sym, subst}
use Rattle.qm_partition.specs.declared.node.Child.{Child}
use Rattle.qm_reach.specs.inner.DueBodies.{DueBody, body_at, IsWalkedOn}
use Rattle.qm_reach.proofs.Walks.{walked_at_leaf}
use Rattle.qm_descent.proofs.walk.visit.Goals as goal

pub returns-in_ok-push-in-Leaf : goal.returns-in_ok-push-in-Leaf
returns-in_ok-push-in-Leaf c =
    let tree = c.args.tree.now in
    let due = c.args.due.now.items in
    let old = c.args.found.now.items in
    let new = c.push.new.self.items in
    subst (λ (next : DueBody). IsWalkedOn tree next due due old new) c.next.view_is
    (subst (λ (child : Child). IsWalkedOn tree (body_at c.next.inside.body child) due due old new) (sym c.in-Leaf.is) (walked_at_leaf tree c.next.inside.body c.in-Leaf.leaf due old new c.in_ok-push-in-Leaf.ensures.items))
