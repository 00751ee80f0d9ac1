use Rattle.std.specs.Prelude.{◌≡◌}
use Rattle.qm_space.specs.Bounds.{world_extent}
use Rattle.qm_space.specs.Point.{Point, IsInCube}
use Rattle.qm_space.specs.Cuboid.{Cuboid}
use Rattle.qm_mapfile.specs.declared.entity.MapFile.{MapFile}
use Rattle.qm_contents.specs.declared.contents.Contents.TheVariants.{Solid}
use Rattle.qm_blocking.specs.HullContents.{HasHullContents, MeetsBrush}
use Rattle.qm_partition.specs.Tree.{Tree}
use Rattle.qm_partition.specs.LeafOfPoint.{leaf_record_at, IsOffNodePlanes}
use Rattle.qm_partition.specs.Ways.{HasPoints}
use Rattle.qm_solid_tree.specs.GivesContents.{LeadsPoints}
use Rattle.qm_formats.specs.TreeFile.{TreeFile, IsValidFile}
use Rattle.qm_plain.specs.PlainFile.{IsPlainFile}
use Rattle.qm_hull_trees.specs.HullTree.{IsHullTree}

-- the hull of a map for a box: a plain tree file of the one tree in which the box is a point. It gives each point solid where some
-- obstacle of the world has the point behind or on each of its moved planes, else empty; so it gives solid each point at which the
-- box meets an obstacle. Each of its leaves has a point.
pub record IsHull (map : MapFile) (box : Cuboid) (file : TreeFile) : Type 0 where
  pub is_tree : IsHullTree map box file.tree
  pub only_tree : (other : Tree) → IsHullTree map box other → other ≡ file.tree
  pub gives_contents : LeadsPoints file.tree (λ x leaf. HasHullContents map box x leaf.contents)
  pub solid_where_met :
      (x : Point) → IsInCube x → IsOffNodePlanes file.tree.planes file.tree.shape x → MeetsBrush map box x →
      (leaf_record_at file.tree.planes file.tree.shape x).contents ≡ Solid
  pub have_points : HasPoints file.tree
  pub is_plain : IsPlainFile world_extent file
  pub is_valid : IsValidFile file
