use Rattle.std.specs.Prelude.{◌≡◌, ◌<◌, ℕ, Bool, List, length, Option, Some, None, slice_index_or}
use Rattle.qm_lists.specs.WorkList.{IsIn}
use Rattle.qm_contacts.specs.NumberedLeaves.{numbered_leaves}
use Rattle.qm_contacts.specs.Portals.{Portal}
use Rattle.qm_contacts.specs.World.{World}
use Rattle.qm_segments.specs.Sight.{IsInSight}
use Rattle.qm_separators.specs.ChainState.{ChainState}
use Rattle.qm_separators.specs.PortalSteps.{BeginsWith}
use Rattle.qm_chains.specs.Shown.{IsAt}
use Rattle.qm_chains.specs.inner.OwnRows.{AreOwnRows}
use Rattle.qm_chains.specs.inner.Wanted.{IsWantedVia}

-- What a flow knows of its first portal and another one, a pair.

-- the number of the first portal, the state of the chain with it alone, the leaves that may be in sight of it, and the rows of
-- the flow's own: that of a portal is the row of its pair
pub record Pairs : Type 0 where
  pub first : ℕ
  pub start : ChainState
  pub seen : List Bool
  pub own : List (Option (List Bool))

-- a row of the pair with the portal of this number has each leaf that is wanted via it
abbrev pub IsPairRow : World → ℕ → List Bool → ℕ → List Bool → Type 0
IsPairRow world p found number row = (n : ℕ) → IsWantedVia world p found number n → IsIn row n

-- the rows that are there are rows of their pairs
pub record ArePairs (world : World) (found : List Bool) (pairs : Pairs) : Type 0 where
  pub begun : (first : Portal) → IsAt world.portals pairs.first first → BeginsWith first pairs.start
  pub seen_wide : length pairs.seen ≡ length (numbered_leaves world.tree)
  pub sees : (first : Portal) → IsAt world.portals pairs.first first → (n : ℕ) → IsInSight world.tree first n → IsIn pairs.seen n
  pub first_within : pairs.first < length world.portals
  pub own_are : AreOwnRows world pairs.own
  pub rows_are : (number : ℕ) (row : List Bool) → slice_index_or pairs.own number None ≡ Some row → IsPairRow world pairs.first found number row

-- and have only leaves that their portals may have: which leaf, and then the portal, by their numbers, is any relation
abbrev pub LieWithinPairs : (ℕ → ℕ → Type 0) → List (Option (List Bool)) → Type 0
LieWithinPairs MayHave own = (number : ℕ) (row : List Bool) → slice_index_or own number None ≡ Some row → (n : ℕ) → IsIn row n → MayHave n number
