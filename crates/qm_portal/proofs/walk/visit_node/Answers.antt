use Rattle.qm_portal.proofs.VisitedCells.{cell_node_within, crosses_some, front_child, back_child, visited_node}
use Rattle.qm_portal.proofs.walk.visit_node.Goals as goal

pub node-node-requires : goal.node-node-requires
node-node-requires c = cell_node_within c.args.tree.now c.args.cell c.args.n c.requires.node c.requires.known

pub section-requires : goal.section-requires
section-requires c = crosses_some c.args.tree.now c.args.cell c.args.n c.node-node.result c.plane-plane.result c.requires.node c.node-node.ensures.value c.plane-plane.ensures.value c.requires.known

pub add_pairs-requires-clause-front : goal.add_pairs-requires-clause-front
add_pairs-requires-clause-front c = front_child c.args.tree.now c.args.cell c.args.n c.node-node.result c.plane-plane.result c.requires.node c.node-node.ensures.value c.plane-plane.ensures.value c.requires.known

pub add_pairs-requires-clause-back : goal.add_pairs-requires-clause-back
add_pairs-requires-clause-back c = back_child c.args.tree.now c.args.cell c.args.n c.node-node.result c.plane-plane.result c.requires.node c.node-node.ensures.value c.plane-plane.ensures.value c.requires.known

pub returns-clause-visited : goal.returns-clause-visited
returns-clause-visited c =
    visited_node c.args.tree.now c.args.cell c.args.n c.node-node.result c.plane-plane.result c.requires.node c.node-node.ensures.value c.plane-plane.ensures.value
    c.in_ok-section.section.value c.in_ok-halves.halves.front c.in_ok-halves.halves.back c.args.due.now.items c.push.new.self.items c.push-2.new.self.items c.args.pairs.now.items c.add_pairs.new.pairs.items
    c.in_ok-section.ensures c.in_ok-halves.ensures.front c.in_ok-halves.ensures.back c.in_ok-push.ensures.items c.in_ok-push-2.ensures.items c.in_ok-add_pairs.ensures.pairs
