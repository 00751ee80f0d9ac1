use Rattle.std.specs.Prelude.{ℕ, Bool, true, List, length, replicate}
use Rattle.qm_lists.specs.WorkList.{IsIn}
use Rattle.qm_contacts.specs.NumberedLeaves.{numbered_leaves}
use Rattle.qm_contacts.specs.World.{World}
use Rattle.qm_chains.specs.inner.Narrowing.{IsNarrowed}
use Rattle.qm_chains.specs.inner.OwnRows.{IsInSightAt}
use Rattle.qm_sight.specs.WordInSight.{ceiling_of, LieWithin}

-- the leaves that may be in sight of the portal of number p: it keeps all that are, and has none that its ceiling lacks
abbrev pub IsFirstMask : World → List (List Bool) → ℕ → List Bool → Type 0
IsFirstMask world ceilings p mask = IsNarrowed (IsInSightAt world p) (IsIn (ceiling_of ceilings p)) (replicate (length (numbered_leaves world.tree)) true) mask

-- the same over some ceilings that have what the source can answer now
pub record IsSomeFirstMask (world : World) (now : List (List Bool)) (p : ℕ) (seen : List Bool) : Type 0 where
  pub ceilings : List (List Bool)
  pub below : LieWithin now ceilings
  pub mask : IsFirstMask world ceilings p seen
