use Rattle.std.specs.Prelude.{◌≡◌, ◌⊎◌, ℕ, Bool, List, length}
use Rattle.qm_lists.specs.WorkList.{IsIn}
use Rattle.qm_contacts.specs.Portals.{Portal}
use Rattle.qm_chains.specs.Shown.{IsShown}

-- a row gains leaves, and only such as an open chain from the portal of number p shows, over portals that each may have the
-- leaf: which leaf, and then the portal, by their numbers, is any relation
pub record HasGainedShown (portals : List Portal) (MayHave : ℕ → ℕ → Type 0) (p : ℕ) (old new : List Bool) : Type 0 where
  pub same_length : length new ≡ length old
  pub stays : (n : ℕ) → IsIn old n → IsIn new n
  pub gained : (n : ℕ) → IsIn new n → IsIn old n ⊎ IsShown portals (MayHave n) p n
