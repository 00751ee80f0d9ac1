use Rattle.std.proofs.Common.{◌+◌, ◌/◌, length, arith}
use Rattle.qm_partition.proofs.NumberingWalks.{counted, numbering_begins, numbering_leaf, two_wait, numbering_ends}
use Rattle.qm_tree.proofs.TakenChildren.{numbering_takes}
use Rattle.qm_tree.proofs.numbering.numbered_parts.Goals as goal
use Rattle.qm_tree.proofs.numbering.numbered_parts.Goals.{in-Leaf+in_ok-push-in-Leaf+in_ok-push-in-Leaf-2, in-Node+in_ok-add_node-in-Node}

pub loop-visit-init : goal.loop-visit-init
loop-visit-init c =
    let walk = c.args.backwards.now in
    let counts = counted walk c.requires.0 c.requires.1 in
    rw (c.new-waiting.ensures.items, c.in_ok-nodes.ensures.items, c.in_ok-leaves.ensures.items) (numbering_begins walk (length walk / 2) (length walk / 2 + 1) (omega (arith, counts.length_is)) (omega (arith, counts.length_is, counts.leaves_are)))

pub add_node-requires : goal.add_node-requires
add_node-requires c =
    let walk = c.args.backwards.now in
    let loop = c.loop-visit in
    let two = two_wait walk loop.visit-index _ c.loop-visit-test.true loop.waiting.items loop.nodes.items loop.leaves.items loop.next_node loop.next_leaf c.in-Node.plane c.requires.0 loop.invariant c.in-Node.is c.requires.1 in
    omega (arith, two, loop.waiting.ok.0)

pub loop-visit-preserved : goal.loop-visit-preserved
loop-visit-preserved c =
    let walk = c.args.backwards.now in
    let loop = c.loop-visit in
    elim c.match-visit.branch [
      | in-Leaf+in_ok-push-in-Leaf+in_ok-push-in-Leaf-2 w ↦
          rw (w.next_node-is, w.next_leaf-is, w.waiting-is, w.nodes-is, w.leaves-is, w.in_ok-push-in-Leaf.ensures.items, w.in_ok-push-in-Leaf-2.ensures.items)
          (numbering_leaf walk loop.visit-index _ c.loop-visit-test.true loop.waiting.items loop.nodes.items loop.leaves.items loop.next_node loop.next_leaf w.in-Leaf.leaf loop.invariant w.in-Leaf.is)
      | in-Node+in_ok-add_node-in-Node w ↦
          rw (w.next_node-is, w.next_leaf-is, w.waiting-is, w.nodes-is, w.leaves-is)
          (numbering_takes walk loop.visit-index _ loop.waiting.items _ loop.nodes.items _ loop.leaves.items loop.next_node loop.next_leaf w.in-Node.plane c.loop-visit-test.true w.in-Node.is loop.invariant w.in_ok-add_node-in-Node.ensures)
    ]

pub returns : goal.returns
returns c = λ shape is.
    let loop = c.loop-visit in
    rw (c.reverse.ensures.items, c.reverse-2.ensures.items) (numbering_ends c.args.backwards.now loop.visit-index loop.waiting.items loop.nodes.items loop.leaves.items loop.next_node loop.next_leaf shape loop.invariant c.loop-visit-test.false is)
