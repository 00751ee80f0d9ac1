use Rattle.std.specs.Prelude.{◌≡◌, Bool, List}
use Rattle.qm_contacts.specs.World.{World}
use Rattle.qm_chains.specs.inner.Pairs.{Pairs, ArePairs, LieWithinPairs}
use Rattle.qm_sight.specs.WordInSight.{LieWithin}
use Rattle.qm_sight.specs.InCeiling.{IsInCeiling}

-- Pairs go on, with a row more, or one narrowed, or neither: their first portal stays, and they are pairs for what is found. What
-- their rows have lies within all ceilings that have what rows had before, and what the source can answer now.
pub record PairsGoOn (world : World) (now : List (List Bool)) (found : List Bool) (old new : Pairs) : Type 0 where
  pub same_first : new.first ≡ old.first
  pub are : ArePairs world found new
  pub within : (ceilings : List (List Bool)) → LieWithin now ceilings → LieWithinPairs (IsInCeiling ceilings) old.own → LieWithinPairs (IsInCeiling ceilings) new.own
