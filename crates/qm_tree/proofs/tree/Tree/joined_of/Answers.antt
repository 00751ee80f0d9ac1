use Rattle.std.proofs.Common.{◌≡◌, reverse, ap, ◌∙◌}
use Rattle.qm_partition.specs.Partition.{Partition}
use Rattle.qm_partition.specs.Joining.{joined}
use Rattle.qm_partition.specs.Visits.{visits}
use Rattle.qm_partition.specs.Numbering.{AreNumbered}
use Rattle.qm_partition.proofs.OwnArrays.{partition_of-numbered}
use Rattle.qm_partition.proofs.MadeTrees.{made_of_shape}
use Rattle.qm_partition.proofs.JoinedParts.{joined_well_made, joined_from-all}
use Rattle.qm_tree.proofs.tree.Tree.joined_of.Goals as goal
use Rattle.qm_tree.proofs.tree.Tree.joined_of.Goals.{In_ok-nodes}

-- the nodes and leaves are numbered as those of the joined partition
numbered : (c : In_ok-nodes) (shape : Partition) → visits shape ≡ c.args.walk.items → AreNumbered (joined shape) c.in_ok-nodes.nodes.items c.in_ok-nodes.leaves.items
numbered c shape is = c.in_ok-nodes.ensures (joined shape) (ap reverse c.deref.ensures.value ∙ c.in_ok-backwards.ensures ∙ joined_from-all shape c.args.walk.items is)

pub numbered_parts-requires : goal.numbered_parts-requires
numbered_parts-requires c =
    let shape = c.requires.0 in
    (joined shape, ap reverse c.deref.ensures.value ∙ c.in_ok-backwards.ensures ∙ joined_from-all shape c.args.walk.items c.requires.1)

pub invariant_of-result : goal.invariant_of-result
invariant_of-result c =
    let shape = c.requires.0 in
    made_of_shape c.args.planes.items c.in_ok-nodes.nodes.items c.in_ok-nodes.leaves.items (joined shape) (numbered c shape c.requires.1) (joined_well_made c.args.planes.items shape c.requires.2)

pub returns : goal.returns
returns c = λ shape is.
    ap (λ (shape : Partition). record { planes = c.args.planes.items; shape = shape })
    (partition_of-numbered (joined shape) c.in_ok-nodes.nodes.items c.in_ok-nodes.leaves.items (numbered (goal.at.returns c).In_ok-nodes shape is))
