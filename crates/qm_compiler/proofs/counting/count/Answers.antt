use Rattle.std.proofs.Common.{ℕ, ◌/◌, length, List, refl, ap, ◌∙◌}
use Rattle.std.specs.Prelude.{count_by}
use Rattle.qm_partition.specs.Counting.{node_count, leaf_count, leaves_of}
use Rattle.qm_partition.specs.Tree.{Tree}
use Rattle.qm_partition.specs.declared.node.Leaf.{Leaf}
use Rattle.qm_compiler.proofs.NumberedCounts.{as_many_numbered}
use Rattle.qm_compiler.proofs.counting.count.Goals as goal

pub returns : goal.returns
returns c =
    let tree = c.tree-tree.ensures in
    record {
      sealed_is = refl;
      brushes_is = refl;
      flat_is = refl;
      planes_is = c.from.ensures ∙ c.planes.ensures.value ∙ ap (λ (t : Tree). length t.planes) tree;
      nodes_is = c.nodes.ensures ∙ ap (λ (t : Tree). node_count t.shape) tree;
      leaves_is = c.leaves.ensures ∙ ap (λ (t : Tree). leaf_count t.shape) tree;
      numbered_is = c.leaves-2.ensures ∙ as_many_numbered (leaves_of c.args.world.now.tree.shape) 0;
      filled_is =
          c.count_filled.ensures
          ∙ ap (λ (all : List Leaf). count_by (λ found. found.filled) all) (c.all_leaves.ensures ∙ ap (λ (t : Tree). leaves_of t.shape) tree);
      portals_is = ap (λ (n : ℕ). n / 2) c.portals.ensures;
      seen_is = c.seen.ensures;
    }
