use Rattle.std.specs.Prelude.{◌≡◌, ℕ, List, Bool, Some, length, slice_get}
use Rattle.qm_contacts.specs.NumberedLeaves.{numbered_leaves}
use Rattle.qm_contacts.specs.Portals.{Portal}
use Rattle.qm_contacts.specs.World.{World}
use Rattle.qm_coarse_rows.specs.CoarseRow.{MayFollow, IsCoarseRow}

-- Portals by their places, and their coarse rows.

abbrev pub leaves_of_world : World → ℕ
leaves_of_world world = length (numbered_leaves world.tree)

-- the portal at a place may follow the one at another
pub record MayFollowAt (portals : List Portal) (p q : ℕ) : Type 0 where
  pub first : Portal
  pub second : Portal
  pub first_is : slice_get portals p ≡ Some first
  pub second_is : slice_get portals q ≡ Some second
  pub follows : MayFollow first second

-- the coarse row of the portal at a place
pub record IsCoarseRowAt (world : World) (p : ℕ) (row : List Bool) : Type 0 where
  pub portal : Portal
  pub portal_is : slice_get world.portals p ≡ Some portal
  pub is : IsCoarseRow world.portals (leaves_of_world world) portal row
