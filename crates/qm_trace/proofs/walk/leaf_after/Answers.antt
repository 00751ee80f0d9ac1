use Rattle.std.proofs.Common.{sym, subst}
use Rattle.qm_partition.specs.declared.node.Child.{Child}
use Rattle.qm_partition.specs.LeafOfPoint.{node_value}
use Rattle.qm_spans.specs.Partings.{end_parting}
use Rattle.qm_spans.proofs.WalkedSpans.{LeadsAfter, leads_to_root, leads_further, first_span, next_child_later}
use Rattle.qm_trace.proofs.walk.leaf_after.Goals as goal

pub loop-child-init : goal.loop-child-init
loop-child-init c =
    subst (λ (child : Child). LeadsAfter c.args.tree.now c.args.from.now c.args.to.now c.args.at child end_parting) (sym c.root-child.ensures)
    (leads_to_root c.args.tree.now c.args.from.now c.args.to.now c.args.at c.requires.some)

pub returns-in-Leaf-clause-first : goal.returns-in-Leaf-clause-first
returns-in-Leaf-clause-first c =
    first_span c.args.tree.now c.args.from.now c.args.to.now c.in-Leaf.leaf c.args.at c.loop-child.leave
    (subst (λ (child : Child). LeadsAfter c.args.tree.now c.args.from.now c.args.to.now c.args.at child c.loop-child.leave) c.in-Leaf.is c.loop-child.invariant)

pub loop-child-smaller : goal.loop-child-smaller
loop-child-smaller c =
    let tree = c.args.tree.now in
    let next = c.next_child-next.ensures in
    let u = node_value tree.planes next.0.plane c.args.from.now in
    let v = node_value tree.planes next.0.plane c.args.to.now in
    rw (c.in-Node.is, next.2) (next_child_later tree c.in-Node.n next.0 u v c.args.at c.loop-child.leave next.1)

pub loop-child-preserved : goal.loop-child-preserved
loop-child-preserved c =
    let next = c.next_child-next.ensures in
    let led = subst (λ (child : Child). LeadsAfter c.args.tree.now c.args.from.now c.args.to.now c.args.at child c.loop-child.leave) c.in-Node.is c.loop-child.invariant in
    rw next.2 (leads_further c.args.tree.now c.args.from.now c.args.to.now c.in-Node.n next.0 c.args.at c.loop-child.leave led next.1)
