use Rattle.std.proofs.Common.{subst}
use Rattle.qm_partition.specs.declared.node.Child.{Child}
use Rattle.qm_partition.proofs.PlacedParts.{LeadsOn, leads_on_next, child_towards_later}
use Rattle.qm_tree.proofs.tree.Tree.leaf_at.Goals as goal

pub loop-child-smaller : goal.loop-child-smaller
loop-child-smaller c =
    let tree = c.args.self.now in
    let next = c.child_towards-child.ensures in
    rw (c.in-Node.is, next.2) (child_towards_later tree.planes tree.shape c.args.at.now c.in-Node.n next.0 next.1)

pub loop-child-preserved : goal.loop-child-preserved
loop-child-preserved c =
    let tree = c.args.self.now in
    let next = c.child_towards-child.ensures in
    let led = subst (λ (child : Child). LeadsOn tree.planes tree.shape c.args.at.now child) c.in-Node.is c.loop-child.invariant in
    rw next.2 (leads_on_next tree.planes tree.shape c.args.at.now c.in-Node.n next.0 led next.1)
