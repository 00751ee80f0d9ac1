use Rattle.std.specs.Prelude.{◌≡◌, ℕ, Bool, List, []}
use Rattle.qm_contacts.specs.World.{World}
use Rattle.qm_chains.specs.inner.Frame.{Frame}
use Rattle.qm_chains.specs.inner.Pairs.{Pairs, ArePairs, LieWithinPairs}
use Rattle.qm_chains.specs.inner.Walk.{IsWalk}
use Rattle.qm_sight.specs.WordInSight.{LieWithin}
use Rattle.qm_sight.specs.InCeiling.{IsInCeiling}

-- a walk from the portal of number p over these ceilings, so far, and what its flow knows of pairs
pub record IsWalkSoFar (world : World) (ceilings : List (List Bool)) (p : ℕ) (pairs : Pairs) (frames : List Frame) (row : List Bool) : Type 0 where
  pub walk : IsWalk world (IsInCeiling ceilings) p frames row
  pub pairs_are : ArePairs world row pairs
  pub first : pairs.first ≡ p
  pub within : LieWithinPairs (IsInCeiling ceilings) pairs.own

-- a walk from some portal, over ceilings that have what the source can answer now
pub record IsSomeWalk (world : World) (now : List (List Bool)) (pairs : Pairs) (frames : List Frame) (row : List Bool) : Type 0 where
  pub p : ℕ
  pub ceilings : List (List Bool)
  pub below : LieWithin now ceilings
  pub so_far : IsWalkSoFar world ceilings p pairs frames row

-- a walk from the portal of number p, with these ceilings, that has ended: no frame is left
abbrev pub HasEnded : World → List (List Bool) → ℕ → List Bool → Type 0
HasEnded world ceilings p row = IsWalk world (IsInCeiling ceilings) p [] row
