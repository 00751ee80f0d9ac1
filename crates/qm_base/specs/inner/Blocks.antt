-- The coarse rows of the lanes so far.
use Rattle.std.specs.Prelude.{◌≡◌, ℕ, List, Bool, Some, length, slice_get}
use Rattle.qm_contacts.specs.World.{World}
use Rattle.qm_base.specs.declared.finding.LaneWorld.{LaneWorld}
use Rattle.qm_base.specs.declared.lane.Lane.{Lane}
use Rattle.qm_base.specs.inner.Entering.{AreEnteredLeaves}
use Rattle.qm_base.specs.inner.Following.{IsCoarseRowAt}
use Rattle.qm_base.specs.inner.Tables.{IsTable}
use Rattle.qm_base.specs.inner.Ways.{block_of}

-- the table is that of the world, and the leaves are those that its portals enter
pub record IsLaneWorld (all : LaneWorld) : Type 0 where
  pub table : IsTable all.world.now.portals all.table.now.lanes.items all.table.now.kinds.items all.table.now.beside.items
  pub entered : AreEnteredLeaves all.world.now all.entered.now

-- the row of a portal is its coarse row
pub record HasCoarseRow (world : World) (rows : List (List Bool)) (p : ℕ) : Type 0 where
  pub row : List Bool
  pub row_is : slice_get rows p ≡ Some row
  pub is : IsCoarseRowAt world p row

-- the rows of some lanes are written, and no other row gets worse
pub record AreWritten (world : World) (lanes : List Lane) (old new : List (List Bool)) : Type 0 where
  pub same_count : length new ≡ length old
  pub kept : (p : ℕ) → HasCoarseRow world old p → HasCoarseRow world new p
  pub each : (j : ℕ) (lane : Lane) → slice_get lanes j ≡ Some lane → HasCoarseRow world new lane.portal

-- the rows of a block
abbrev pub IsBlockDone : World → List Lane → ℕ → List (List Bool) → List (List Bool) → Type 0
IsBlockDone world lanes block old new = AreWritten world (block_of block lanes) old new
