use Rattle.std.specs.Prelude.{ℕ, Bool, List, Contains}
use Rattle.qm_contacts.specs.World.{World}
use Rattle.qm_sight.specs.InCeiling.{IsInCeiling}
use Rattle.qm_sight.specs.RowsOfWorld.{AreRowsOfWorld}
use Rattle.qm_sight.specs.WordInSight.{LieWithin}
use Rattle.qm_shared_rows.specs.Findings.{Findings}
use Rattle.qm_board.specs.WorldSets.{IsInBoundAt}
use Rattle.qm_board.specs.Ceilings.{ceiling_rows}

-- The rows of a board that was closed with a pass that had found this: they are rows of the world, each within the ceilings of
-- the pass, and within the bound of its portal where the pass knew it as done.
pub record AreClosedRows (world : World) (pass : Findings) (rows : List (List Bool)) : Type 0 where
  pub are_rows : AreRowsOfWorld world rows
  pub within : LieWithin rows (ceiling_rows world pass)
  pub bound : (portal n : ℕ) → Contains pass.known portal → IsInCeiling rows n portal → IsInBoundAt world portal n
