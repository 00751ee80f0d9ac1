use Rattle.std.specs.Prelude.{◌≡◌, ℕ, Bool, List, length, Option, Some, None, MatchOption, slice_index_or}
use Rattle.qm_lists.specs.WorkList.{IsIn}
use Rattle.qm_contacts.specs.NumberedLeaves.{numbered_leaves}
use Rattle.qm_contacts.specs.Portals.{Portal}
use Rattle.qm_contacts.specs.World.{World}
use Rattle.qm_segments.specs.Sight.{IsInSight}
use Rattle.qm_chains.specs.Shown.{IsAt}

-- The rows that a flow has of its own: for each portal, in their order, one or none yet. Where there is none, its row is read
-- where all flows read.

-- there is one or none for each portal, and each has a place for each numbered leaf
pub record AreOwnRows (world : World) (own : List (Option (List Bool))) : Type 0 where
  pub one_each : length own ≡ length world.portals
  pub wide : (number : ℕ) (row : List Bool) → slice_index_or own number None ≡ Some row → length row ≡ length (numbered_leaves world.tree)

-- the leaf of number n is in sight of the portal of this number
pub record IsInSightAt (world : World) (number n : ℕ) : Type 0 where
  pub portal : Portal
  pub portal_is : IsAt world.portals number portal
  pub sight : IsInSight world.tree portal n

-- an answer for the portal of this number must have the leaf of number n: its own row has it, and where there is none yet, the
-- leaf is in sight of it
abbrev pub MustHave : World → List (Option (List Bool)) → ℕ → ℕ → Type 0
MustHave world own number n = MatchOption (slice_index_or own number None) (IsInSightAt world number n) (λ row. IsIn row n)

-- and an answer can have the leaf: its own row has it, and where there is none yet, the ceiling of the portal
abbrev pub CanHave : List Bool → List (Option (List Bool)) → ℕ → ℕ → Type 0
CanHave ceiling own number n = MatchOption (slice_index_or own number None) (IsIn ceiling n) (λ row. IsIn row n)
