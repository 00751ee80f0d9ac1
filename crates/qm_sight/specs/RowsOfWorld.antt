use Rattle.std.specs.Prelude.{◌≡◌, ℕ, Bool, List, length, All, Some, slice_get}
use Rattle.qm_contacts.specs.NumberedLeaves.{numbered_leaves}
use Rattle.qm_contacts.specs.Portals.{Portal}
use Rattle.qm_contacts.specs.World.{World}
use Rattle.qm_segments.specs.Sight.{IsSoundRow, AreSoundRows}

-- the rows of the portals of a world
pub record RowsOfWorld : Type 0 where
  pub world : World
  pub rows : List (List Bool)

-- one for each portal, sound, with a place for each numbered leaf
pub record AreRowsOfWorld (world : World) (rows : List (List Bool)) : Type 0 where
  pub sound : AreSoundRows world.tree world.portals rows
  pub wide : All (λ row. length row ≡ length (numbered_leaves world.tree)) rows

-- a sound row for the portal at a place
abbrev pub IsSoundAt : World → ℕ → List Bool → Type 0
IsSoundAt world place row = (portal : Portal) → slice_get world.portals place ≡ Some portal → IsSoundRow world.tree portal row
