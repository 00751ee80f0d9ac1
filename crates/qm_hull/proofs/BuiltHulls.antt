-- The plain file of the tree that is built of moved obstacles is a hull.
use Rattle.std.proofs.Common.{◌≡◌, ◌<◌, ◌^◌, inr, List, subst, sym}
use Rattle.std.specs.Prelude.{IfSome, count_by}
use Rattle.qm_space.specs.Bounds.{world_extent}
use Rattle.qm_space.specs.Cuboid.{Cuboid}
use Rattle.qm_mapfile.specs.declared.entity.MapFile.{MapFile}
use Rattle.qm_solids.specs.Solid.{Solid}
use Rattle.qm_solids.specs.InBook.{solids_in}
use Rattle.qm_solids.proofs.AlikeSolids.{same_contents_back}
use Rattle.qm_blocking.specs.Moved.{HasOrigin}
use Rattle.qm_blocking.specs.MovedSolids.{moved_parts}
use Rattle.qm_blocking.specs.HullContents.{HasHullContents}
use Rattle.qm_partition.specs.LeafOfPoint.{leaf_record_at}
use Rattle.qm_partition.specs.Tree.{Tree}
use Rattle.qm_partition.specs.Ways.{HasPoints}
use Rattle.qm_partition.specs.Counting.{leaves_of, node_count}
use Rattle.qm_solid_tree.specs.GivesContents.{LeadsPoints, GivesContents}
use Rattle.qm_solid_tree.specs.TreeOf.{IsTreeOf}
use Rattle.qm_solid_tree.proofs.SameTree.{tree_back}
use Rattle.qm_contacts.specs.NumberedLeaves.{is_numbered}
use Rattle.qm_formats.specs.TreeFile.{TreeFile, Section, AreRows, AreSections, IsValidFile}
use Rattle.qm_plain.specs.PlainFile.{IsPlainFile}
use Rattle.qm_build.proofs.BuiltTrees.{tree_well_made, tree_reduced}
use Rattle.qm_hull_trees.specs.HullTree.{IsHullTree}
use Rattle.qm_hull_trees.specs.Hull.{IsHull}
use Rattle.qm_hull_trees.proofs.HullContents.{hull_contents, solid_if_met}
use Rattle.qm_hull.specs.declared.moved_world.MovedWorld.{MovedWorld}
use Rattle.qm_hull.specs.inner.MovedWorld.{IsMovedWorld}
use Rattle.qm_hull.proofs.OneHull.{one_hull_tree}

-- what the lists and the book define together
abbrev solids_of : MovedWorld → List Solid
solids_of world = solids_in world.book world.list

-- a tree that was built of a moved world
pub record IsBuiltOf (world : MovedWorld) (tree : Tree) : Type 0 where
  pub is_tree : IsTreeOf (solids_of world) world.book tree
  pub points : HasPoints tree
  pub contents : GivesContents tree (solids_of world)
  pub few : node_count tree.shape < 2 ^ 63

module _ (map : MapFile) (box : Cuboid) (origin : HasOrigin box) (world : MovedWorld) (is : IsMovedWorld map box world) where
  hull_tree : (tree : Tree) → IsTreeOf (solids_of world) world.book tree → IsHullTree map box tree
  hull_tree tree is_tree = record {
    brushes = is.moved.brushes;
    are_obstacles = is.moved.are;
    book = world.book;
    entered = is.moved.entered;
    is_tree = tree_back (moved_parts box is.moved.brushes) (solids_of world) is.moved.solids world.book tree is_tree;
  }

  gives_hull_contents : (tree : Tree) → GivesContents tree (solids_of world) → LeadsPoints tree (λ x leaf. HasHullContents map box x leaf.contents)
  gives_hull_contents tree gives = record {
    named = gives.named;
    normals = gives.normals;
    gives = λ x in_cube off.
        let found = (leaf_record_at tree.planes tree.shape x).contents in
        let has = same_contents_back (moved_parts box is.moved.brushes) (solids_of world) is.moved.solids x found (gives.gives x in_cube off) in
        hull_contents map box origin is.moved.brushes is.moved.are x found has;
  }

  valid_plain : (file : TreeFile) → IsPlainFile world_extent file → IsTreeOf (solids_of world) world.book file.tree → node_count file.tree.shape < 2 ^ 63 → IsValidFile file
  valid_plain file plain is_tree few = record {
    of_version = inr (record { version = plain.version; bound = inr plain.bound_is });
    well_made = tree_well_made (solids_of world) world.book is.filled.planes file.tree is_tree;
    few_nodes = few;
    reduced = tree_reduced (solids_of world) world.book is.filled.planes file.tree is_tree;
    rows = subst (λ rows. IfSome rows (AreRows (count_by is_numbered (leaves_of file.tree.shape)))) (sym plain.no_rows) tt;
    sections = subst (λ (sections : List Section). AreSections sections) (sym plain.no_sections) tt;
  }

  hull_of_its_tree : (file : TreeFile) → IsPlainFile world_extent file → IsBuiltOf world file.tree → IsHull map box file
  hull_of_its_tree file plain built =
      let is_tree = hull_tree file.tree built.is_tree in
      let contents = gives_hull_contents file.tree built.contents in
      record {
        is_tree = is_tree;
        only_tree = λ other its. one_hull_tree map box file.tree other is_tree its;
        gives_contents = contents;
        solid_where_met = λ x in_cube off meets.
            solid_if_met map box x (leaf_record_at file.tree.planes file.tree.shape x).contents (contents.gives x in_cube off) meets;
        have_points = built.points;
        is_plain = plain;
        is_valid = valid_plain file plain built.is_tree built.few;
      }

  pub built_hull : (file : TreeFile) (tree : Tree) → IsPlainFile world_extent file → file.tree ≡ tree → IsBuiltOf world tree → IsHull map box file
  built_hull file tree plain same built = hull_of_its_tree file plain (subst (IsBuiltOf world) (sym same) built)
