use Rattle.std.specs.Prelude.{◌≡◌, ℕ, Bool, List, None, length, replicate}
use Rattle.qm_contacts.specs.World.{World}
use Rattle.qm_chains.specs.inner.Pairs.{Pairs, ArePairs}

-- what the flow from the portal of number p knows of pairs when it begins: they are pairs of that portal whatever is found, and
-- have no row
pub record ArePairsBegun (world : World) (p : ℕ) (pairs : Pairs) : Type 0 where
  pub are : (found : List Bool) → ArePairs world found pairs
  pub first_is : pairs.first ≡ p
  pub no_rows : pairs.own ≡ replicate (length world.portals) None
