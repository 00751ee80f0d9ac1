use Rattle.std.specs.Prelude.{ℕ, length, ◌*◌, ◌≤◌}
use Rattle.std.proofs.Common.{arith}
use Rattle.std.specs.Int.{div_ceil}
use Rattle.qm_contacts.specs.NumberedLeaves.{numbered_leaves}
use Rattle.qm_contacts.specs.Portals.{Portal}
use Rattle.qm_contacts.specs.World.{World}
use Rattle.qm_separators.specs.PortalSteps.{IsInChainBound}
use Rattle.qm_chains.specs.Shown.{IsAt}
use Rattle.qm_chains.specs.inner.OwnRows.{IsInSightAt}
use Rattle.qm_shared_rows.specs.RowSets.{RowSets}

-- What the rows of a world's portals are of: a row has all leaves in sight of its portal, and a finished row only leaves in
-- which an open chain ends that begins with its portal.

-- the leaf of number n is in the bound of the portal of this number
pub record IsInBoundAt (world : World) (number n : ℕ) : Type 0 where
  pub portal : Portal
  pub portal_is : IsAt world.portals number portal
  pub bound : IsInChainBound world.portals portal n

-- how many words the row of a portal has
abbrev pub width_of : World → ℕ
width_of world = div_ceil (length (numbered_leaves world.tree)) 64

-- they have a bit for each leaf
pub words_enough : (leaves : ℕ) → leaves ≤ 64 * div_ceil leaves 64
words_enough leaves = omega arith

abbrev pub sets_of : World → RowSets
sets_of world = record {
  portals = length world.portals;
  width = width_of world;
  leaves = length (numbered_leaves world.tree);
  wide = words_enough (length (numbered_leaves world.tree));
  InSight = IsInSightAt world;
  InBound = IsInBoundAt world;
}
