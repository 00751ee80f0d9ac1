use Rattle.std.proofs.Common.{ap}
use Rattle.qm_partition.specs.declared.node.Leaf.{Leaf}
use Rattle.qm_answers.proofs.Places.{found_at}
use Rattle.qm_inspect.proofs.models.leaf_contents_at.Goals as goal

pub returns : goal.returns
returns c =
    ap (λ (found : Leaf). found.contents) (found_at c.args.tree.now c.args.point.now c.leaf_at-leaf.result c.leaf.result c.leaf_at-leaf.ensures.value c.leaf.ensures)
