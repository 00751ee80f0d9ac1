use Rattle.std.proofs.Common.{Err, ap, ◌∙◌}
use Rattle.qm_partition.specs.Arrays.{tree_of}
use Rattle.qm_tree.specs.declared.not_a_tree.NotATree.{NotATree}
use Rattle.qm_file.proofs.tree_reading.tree_of.Goals as goal

pub prove-unreachable-requires : goal.prove-unreachable-requires
prove-unreachable-requires c =
    c.of.ensures.none (c.in-Err-NotNumbered.is ∙ ap (λ (fault : NotATree). Err fault) c.in-Err-NotNumbered.field-0-is) (tree_of c.args.planes.items c.args.nodes.items c.args.leaves.items) c.requires
