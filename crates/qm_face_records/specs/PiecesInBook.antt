use Rattle.std.specs.Prelude.{◌≡◌, List, All}
use Rattle.qm_space.specs.Plane.{Plane}
use Rattle.qm_partition.specs.Tree.{Tree}
use Rattle.qm_surface.specs.Surface.{FacePiece}
use Rattle.qm_surface.specs.Covered.{IsWithinContact}

-- the pieces lie within contacts of a tree with these planes
pub record AreWithinContacts (planes : List Plane) (pieces : List FacePiece) : Type 0 where
  pub tree : Tree
  pub planes_are : tree.planes ≡ planes
  pub within : All (IsWithinContact tree) pieces
