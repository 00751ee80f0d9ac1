-- The tree with marked leaves is well made, and its nodes and leaves are numbered as before.
use Rattle.std.proofs.Common.{◌<◌, ℕ, ◌+◌, Bool, true, false, List, [], ◌∷◌, get_or, length, All, refl, sym, ap, ◌∙◌, Contains, subst}
use Rattle.std.proofs.lemmas.List.Elements.{All-nil, All-cons, All-head, All-tail}
use Rattle.qm_partition.specs.declared.node.Node.{Node as NodeRecord}
use Rattle.qm_partition.specs.declared.node.Leaf.{Leaf as LeafRecord}
use Rattle.qm_partition.specs.Partition.{Partition}
use Rattle.qm_partition.specs.Tree.{Tree}
use Rattle.qm_partition.specs.Counting.{leaves_of}
use Rattle.qm_partition.specs.Numbering.{AreNumbered}
use Rattle.qm_partition.specs.WellMade.{IsSolidIfFilled, IsWellMade}
use Rattle.qm_partition.specs.Ways.{Way, HasPoints}
use Rattle.qm_partition.specs.Marked.{marked_leaf, marked, marked_tree}
use Rattle.qm_partition.proofs.MarkedLeaves.{marked_ways, marked_nodes, marked_planes, marked_leaves, leaves_of_marked}

module _ (row : List Bool) where
  -- a marked leaf is solid
  marked_solid : (mark : Bool) (found : LeafRecord) → IsSolidIfFilled found → IsSolidIfFilled (marked_leaf mark found)
  marked_solid true found solid = λ filled. refl
  marked_solid false found solid = solid

  all_solid : (all : List LeafRecord) (k : ℕ) → All IsSolidIfFilled all → All IsSolidIfFilled (marked_leaves row all k)
  all_solid [] k each = All-nil IsSolidIfFilled
  all_solid (found ∷ all) k each =
      All-cons IsSolidIfFilled (marked_leaf (get_or row k false) found) (marked_leaves row all (k + 1))
      (marked_solid (get_or row k false) found (All-head IsSolidIfFilled found all each))
      (all_solid all (k + 1) (All-tail IsSolidIfFilled found all each))

  pub marked_well_made : (tree : Tree) → IsWellMade tree → IsWellMade (marked_tree row tree)
  marked_well_made tree well = record {
    few = well.few;
    leads = well.leads;
    names = subst (λ (all : List ℕ). All (λ n. n < length tree.planes) all) (sym (marked_planes row tree.shape 0)) well.names;
    solid = subst (λ (all : List LeafRecord). All IsSolidIfFilled all) (sym (leaves_of_marked row tree.shape 0)) (all_solid (leaves_of tree.shape) 0 well.solid);
  }

  pub marked_numbered : (shape : Partition) (nodes : List NodeRecord) (leaves : List LeafRecord) → AreNumbered shape nodes leaves → AreNumbered (marked row shape 0) nodes (marked_leaves row leaves 0)
  marked_numbered shape nodes leaves are = record {
    nodes_are = are.nodes_are ∙ sym (marked_nodes row shape 0 0 0);
    leaves_are = ap (λ (all : List LeafRecord). marked_leaves row all 0) are.leaves_are ∙ sym (leaves_of_marked row shape 0);
  }

  -- and each leaf has the points that it had
  pub marked_points : (tree : Tree) → HasPoints tree → HasPoints (marked_tree row tree)
  marked_points tree have = λ way listed. have way (subst (λ (all : List Way). Contains all way) (marked_ways row tree.shape 0) listed)
