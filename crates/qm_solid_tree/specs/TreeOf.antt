use Rattle.std.specs.Prelude.{◌≡◌, List, []}
use Rattle.qm_space.specs.Plane.{Plane}
use Rattle.qm_solids.specs.Solid.{Solid}
use Rattle.qm_partition.specs.Partition.{Partition}
use Rattle.qm_partition.specs.Joining.{joined}
use Rattle.qm_partition.specs.Tree.{Tree}
use Rattle.qm_solid_tree.specs.Division.{Divides}

-- the tree that solids define with a book that has the planes of all their faces: they divide the whole cube, whose cell
-- has no plane; then leaves of equal contents are joined. The tree keeps the whole book as its planes.
pub record IsTreeOf (solids : List Solid) (book : List Plane) (tree : Tree) : Type 0 where
  pub planes : tree.planes ≡ book
  pub whole : Partition
  pub divides : Divides solids book [] whole
  pub is_joined : tree.shape ≡ joined whole
