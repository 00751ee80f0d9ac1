use Rattle.std.proofs.Common.{◌<◌, Some, Option, subst}
use Rattle.qm_partition.specs.declared.node.Child.{Child}
use Rattle.qm_partition.specs.declared.node.Child.TheVariants.{Node}
use Rattle.qm_portal.specs.inner.Pushes.{rest_weight, weight_at, GoesDown}
use Rattle.qm_portal.proofs.PushedPolygons.{stays, goes_on, due_further_down, pushed_nowhere, pushed_to_leaf}
use Rattle.qm_portal.proofs.pushing.descend.Goals as goal
use Rattle.qm_portal.proofs.pushing.descend.Goals.{In-Node, In_ok-to-in-Node}

pub loop-at-init : goal.loop-at-init
loop-at-init c = stays c.args.tree.now c.args.winding.now c.args.child c.args.due.now.items

-- the polygon came to the node
at_node : (c : In-Node) → GoesDown c.args.tree.now c.args.winding.now c.args.child c.loop-at.winding (Some (Node c.in-Node.n)) c.args.due.now.items c.loop-at.due.items
at_node c = subst (λ (at : Child). GoesDown c.args.tree.now c.args.winding.now c.args.child c.loop-at.winding (Some at) c.args.due.now.items c.loop-at.due.items) c.in-Node.is c.loop-at.invariant

pub step_down-requires : goal.step_down-requires
step_down-requires c =
    due_further_down c.args.tree.now c.args.winding.now c.loop-at.winding c.args.child (Node c.in-Node.n) c.args.due.now.items c.loop-at.due.items (at_node (goal.at.step_down-requires c).In-Node) c.requires

-- and a step further
gone_on : (c : In_ok-to-in-Node) → GoesDown c.args.tree.now c.args.winding.now c.args.child c.step_down.new.winding c.in_ok-to-in-Node.field-0 c.args.due.now.items c.step_down.new.due.items
gone_on c =
    goes_on c.args.tree.now c.args.winding.now c.loop-at.winding c.args.child (Node c.in-Node.n) c.args.due.now.items c.loop-at.due.items (at_node (goal.at.In_ok-to-in-Node c).In-Node) c.step_down.new.winding c.in_ok-to-in-Node.field-0 c.step_down.new.due.items c.in_ok-to-in-Node.ensures.goes

pub loop-at-preserved : goal.loop-at-preserved
loop-at-preserved c =
    subst (λ (to : Option Child). GoesDown c.args.tree.now c.args.winding.now c.args.child c.step_down.new.winding to c.args.due.now.items c.step_down.new.due.items) c.in-Some.is (gone_on (goal.at.loop-at-preserved c).In_ok-to-in-Node)

pub loop-at-smaller : goal.loop-at-smaller
loop-at-smaller c =
    rw c.in-Node.is
    (subst (λ (to : Option Child). rest_weight c.args.tree.now to < weight_at c.args.tree.now (Node c.in-Node.n)) c.in-Some.is c.in_ok-to-in-Node.ensures.smaller)

pub returns-in-Leaf : goal.returns-in-Leaf
returns-in-Leaf c =
    pushed_to_leaf c.args.tree.now c.args.winding.now c.loop-at.winding c.args.child c.args.due.now.items c.loop-at.due.items c.in-Leaf.leaf
    (subst (λ (at : Child). GoesDown c.args.tree.now c.args.winding.now c.args.child c.loop-at.winding (Some at) c.args.due.now.items c.loop-at.due.items) c.in-Leaf.is c.loop-at.invariant)

pub returns-in-None : goal.returns-in-None
returns-in-None c =
    pushed_nowhere c.args.tree.now c.args.winding.now c.step_down.new.winding c.args.child c.args.due.now.items c.step_down.new.due.items
    (subst (λ (to : Option Child). GoesDown c.args.tree.now c.args.winding.now c.args.child c.step_down.new.winding to c.args.due.now.items c.step_down.new.due.items) c.in-None.is (gone_on (goal.at.returns-in-None c).In_ok-to-in-Node))
