use Rattle.qm_reach.proofs.Walks.{walked_at_node}
use Rattle.qm_descent.proofs.walk.part.Goals as goal

pub returns : goal.returns
returns c = λ found.
    walked_at_node c.args.tree.now c.args.n c.node-node.result c.plane-plane.result c.node-node.ensures.value c.plane-plane.ensures.value c.args.body c.in_ok-halves.halves.front c.in_ok-halves.halves.back
    c.in_ok-halves.ensures.front c.in_ok-halves.ensures.back c.args.due.now.items c.push_half.new.due.items c.push_half-2.new.due.items found c.in_ok-push_half.ensures c.in_ok-push_half-2.ensures
