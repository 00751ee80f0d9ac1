use Rattle.std.specs.Prelude.{◌≡◌, true}
use Rattle.qm_convex.specs.World.{LiesWithin}
use Rattle.qm_wind.specs.declared.pane.Pane.{Pane}
use Rattle.qm_extents.specs.Filled.{HasAllOf}
use Rattle.qm_extents.specs.declared.extent.Extent.{Extent}

-- Extents of panes.

-- the plane by which the pane is entered, a cuboid that has its polygon, and a flag that is set only where the polygon has all of it
pub record IsExtentOf (pane : Pane) (extent : Extent) : Type 0 where
  pub into : extent.into ≡ pane.into
  pub within : LiesWithin pane.winding extent.cuboid
  pub full : extent.is_full ≡ true → HasAllOf pane.winding extent.cuboid
