use Rattle.std.proofs.Common.{◌≡◌, ◌<◌, ◌≤◌, ◌-◌, true, false, nat_lt, arith}
use Rattle.std.proofs.lemmas.Bool.Decides.{nat_tests}
use Rattle.qm_partition.specs.inner.LeavesInFront.{leaves_in_front}
use Rattle.qm_partition.proofs.PlacedParts.{sides_come_later}
use Rattle.qm_partition.proofs.FoundWays.{on_way_begins, on_way_ends, is_at_node, back_comes_behind, goes_front, goes_back}
use Rattle.qm_tree.proofs.tree.Tree.path.Goals as goal

pub loop-child-init : goal.loop-child-init
loop-child-init c = rw (c.root-child.ensures, c.new-steps.ensures.items) (on_way_begins c.args.self.now.shape c.args.leaf c.requires)

pub leaves_in_front-in_front-requires : goal.leaves_in_front-in_front-requires
leaves_in_front-in_front-requires c =
    let shape = c.args.self.now.shape in
    let here = c.node-node.result in
    let found = is_at_node shape c.args.leaf c.loop-child.first c.loop-child.steps.items c.loop-child.child c.in-Node.n here c.loop-child.invariant c.in-Node.is c.node-node.ensures.value in
    back_comes_behind shape c.args.leaf c.loop-child.first c.loop-child.steps.items c.in-Node.n here found

pub loop-child-smaller-then-front : goal.loop-child-smaller-then-front
loop-child-smaller-then-front c = rw c.in-Node.is (sides_come_later c.args.self.now.shape c.in-Node.n c.node-node.result c.node-node.ensures.value).0

pub loop-child-preserved-then-front : goal.loop-child-preserved-then-front
loop-child-preserved-then-front c =
    let shape = c.args.self.now.shape in
    let here = c.node-node.result in
    let found = is_at_node shape c.args.leaf c.loop-child.first c.loop-child.steps.items c.loop-child.child c.in-Node.n here c.loop-child.invariant c.in-Node.is c.node-node.ensures.value in
    let in_front = c.leaves_in_front-in_front in
    let yes : nat_lt (c.args.leaf - c.loop-child.first) in_front.result ≡ true = grind (arith, nat_tests, c.if-front.true) in
    let before : c.args.leaf - c.loop-child.first < leaves_in_front here.back c.in-Node.n c.loop-child.first = omega (arith, c.if-front.true, in_front.ensures) in
    rw (c.in_ok-push.ensures.items, yes) (goes_front shape c.args.leaf c.loop-child.first c.loop-child.steps.items c.in-Node.n here found before)

pub loop-child-smaller : goal.loop-child-smaller
loop-child-smaller c = rw c.in-Node.is (sides_come_later c.args.self.now.shape c.in-Node.n c.node-node.result c.node-node.ensures.value).1

pub loop-child-preserved : goal.loop-child-preserved
loop-child-preserved c =
    let shape = c.args.self.now.shape in
    let here = c.node-node.result in
    let found = is_at_node shape c.args.leaf c.loop-child.first c.loop-child.steps.items c.loop-child.child c.in-Node.n here c.loop-child.invariant c.in-Node.is c.node-node.ensures.value in
    let in_front = c.leaves_in_front-in_front in
    let no : nat_lt (c.args.leaf - c.loop-child.first) in_front.result ≡ false = grind (arith, nat_tests, c.if-front.false) in
    let behind : leaves_in_front here.back c.in-Node.n c.loop-child.first ≤ c.args.leaf - c.loop-child.first = omega (arith, c.if-front.false, in_front.ensures) in
    rw (c.in_ok-push.ensures.items, no, in_front.ensures) (goes_back shape c.args.leaf c.loop-child.first c.loop-child.steps.items c.in-Node.n here found behind)

pub returns : goal.returns
returns c =
    let found = on_way_ends c.args.self.now.shape c.args.leaf c.loop-child.child c.in_default.field-0 c.loop-child.first c.loop-child.steps.items c.loop-child.invariant c.in_default.is in
    rw c.of.ensures found
