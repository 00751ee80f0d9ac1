-- The places that two rows have in common.
use Rattle.std.specs.Prelude.{◌≡◌, ◌↔◌, ℕ, Bool, List, length}
use Rattle.qm_lists.specs.WorkList.{IsIn}

-- a row keeps those of its places that another one has
pub record IsCutTo (other old new : List Bool) : Type 0 where
  pub same_length : length new ≡ length old
  pub exactly : (n : ℕ) → IsIn new n ↔ IsIn old n × IsIn other n
