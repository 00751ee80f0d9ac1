use Rattle.std.specs.Prelude.{◌≡◌, ℕ, List, Some, slice_get, Contains, ◌↔◌}
use Rattle.std.specs.List.Sorted.{IsStrictlyIncreasing}
use Rattle.qm_space.specs.Point.{Point}
use Rattle.qm_space.specs.Plane.{IsInFront, IsBehind, flipped}
use Rattle.qm_space.specs.Cell.{IsInCell}
use Rattle.qm_partition.specs.Tree.{Tree}
use Rattle.qm_partition.specs.Ways.{Way, ways, cell_of_way}
use Rattle.qm_contacts.specs.NumberedLeaves.{numbered_leaves}
use Rattle.qm_contacts.specs.Portals.{Portal}

-- A tree with the portals between its numbered leaves.

pub record World : Type 0 where
  pub tree : Tree
  pub portals : List Portal

-- exactly the portals that leave the leaf of number n, by their places, ascending
pub record AreLeaving (portals : List Portal) (n : ℕ) (places : List ℕ) : Type 0 where
  pub ascending : IsStrictlyIncreasing places
  pub leave : (place : ℕ) → Contains places place ↔ ((portal : Portal) × (slice_get portals place ≡ Some portal) × (portal.from ≡ n))

-- a portal leads back through another one, by their numbers: it has the same polygon, turned to the other side, and goes from
-- the leaf that the other enters into the one that the other leaves
pub record LeadsBack (portals : List Portal) (number back : ℕ) : Type 0 where
  pub there : Portal
  pub there_is : slice_get portals number ≡ Some there
  pub again : Portal
  pub again_is : slice_get portals back ≡ Some again
  pub winding_is : again.winding ≡ there.winding
  pub into_is : again.into ≡ flipped there.into
  pub from_is : again.from ≡ there.to
  pub to_is : again.to ≡ there.from

-- a point in the cell of the leaf of number n
pub record IsInCellOf (tree : Tree) (n : ℕ) (x : Point) : Type 0 where
  pub leaf : ℕ
  pub way : Way
  pub leaf_is : slice_get (numbered_leaves tree) n ≡ Some leaf
  pub way_is : slice_get (ways tree.shape) leaf ≡ Some way
  pub inside : IsInCell (cell_of_way tree.planes way) x

-- the plane of a portal has the cell of the leaf that one enters in front of it, and that of the leaf that one leaves behind it
pub record PartsItsLeaves (tree : Tree) (portal : Portal) : Type 0 where
  pub entered : (x : Point) → IsInCellOf tree portal.to x → IsInFront portal.into x
  pub left : (x : Point) → IsInCellOf tree portal.from x → IsBehind portal.into x
