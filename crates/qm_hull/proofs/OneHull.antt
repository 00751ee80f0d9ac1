-- A map has one tree in which a moving box is a point, and one hull.
use Rattle.std.proofs.Common.{◌≡◌, List, [], sym, subst, ◌∙◌}
use Rattle.qm_space.specs.Plane.{Plane}
use Rattle.qm_space.specs.Cuboid.{Cuboid}
use Rattle.qm_space.specs.Entered.{AreEnteredInBook}
use Rattle.qm_geom.proofs.EnteredPlanes.{one_book}
use Rattle.qm_mapfile.specs.declared.entity.Brush.{Brush}
use Rattle.qm_mapfile.specs.declared.entity.MapFile.{MapFile}
use Rattle.qm_drawn.specs.Brushes.{world_brushes}
use Rattle.qm_blocking.specs.MovedSolids.{moved_parts, moved_planes}
use Rattle.qm_blocking.proofs.Obstacles.{one_obstacles}
use Rattle.qm_partition.specs.Tree.{Tree}
use Rattle.qm_solid_tree.specs.TreeOf.{IsTreeOf}
use Rattle.qm_solid_tree.proofs.OneDivision.{one_tree}
use Rattle.qm_formats.specs.TreeFile.{TreeFile}
use Rattle.qm_hull_trees.specs.HullTree.{IsHullTree}
use Rattle.qm_hull_trees.specs.Hull.{IsHull}

module _ (map : MapFile) (box : Cuboid) where
  pub one_hull_tree : (tree other : Tree) → IsHullTree map box tree → IsHullTree map box other → other ≡ tree
  one_hull_tree tree other is its =
      let same = one_obstacles (world_brushes map) its.brushes is.brushes its.are_obstacles is.are_obstacles in
      let entered = subst (λ (brushes : List Brush). AreEnteredInBook [] (moved_planes box brushes) its.book) same its.entered in
      let is_tree = subst (λ (brushes : List Brush). IsTreeOf (moved_parts box brushes) its.book other) same its.is_tree in
      let book = one_book entered is.entered in
      one_tree (moved_parts box is.brushes) is.book other tree (subst (λ (planes : List Plane). IsTreeOf (moved_parts box is.brushes) planes other) book is_tree) is.is_tree

  pub one_hull : (file other : TreeFile) → IsHull map box file → IsHull map box other → file ≡ other
  one_hull file other is its = λ i. record {
    version = (is.is_plain.version ∙ sym its.is_plain.version) i;
    bound = (is.is_plain.bound_is ∙ sym its.is_plain.bound_is) i;
    tree = its.only_tree file.tree is.is_tree i;
    rows = (is.is_plain.no_rows ∙ sym its.is_plain.no_rows) i;
    sections = (is.is_plain.no_sections ∙ sym its.is_plain.no_sections) i;
  }
