use Rattle.std.specs.Prelude.{◌≡◌, List, Some, slice_get}
use Rattle.qm_extents.specs.Extents.{IsExtentOf}
use Rattle.qm_contacts.specs.Portals.{Portal}
use Rattle.qm_portal.specs.declared.exit.Exit.{Exit}

-- What is asked of a portal first.

-- the number of a portal, the leaf that it enters, and an extent of its pane
pub record IsExitOf (portals : List Portal) (exit : Exit) : Type 0 where
  pub portal : Portal
  pub portal_is : slice_get portals exit.portal ≡ Some portal
  pub to_is : exit.to ≡ portal.to
  pub extent_is : IsExtentOf (record { winding = portal.winding; into = portal.into }) exit.extent
