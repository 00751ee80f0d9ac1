use Rattle.std.specs.Prelude.{ℕ, Bool, List}
use Rattle.qm_lists.specs.WorkList.{IsIn}
use Rattle.qm_contacts.specs.Portals.{Portal}
use Rattle.qm_contacts.specs.World.{World}
use Rattle.qm_segments.specs.SeenVia.{IsSeenVia, LiesOnWay}
use Rattle.qm_chains.specs.Shown.{IsAt}

-- What a flow from the portal of number p still looks for, where some leaves are found.

-- the leaf of number n is wanted via the portal q: it lies on the way to a target that is seen via q from the first portal, and
-- that was not found yet. The target itself is wanted too.
pub record IsWanted (world : World) (p : ℕ) (found : List Bool) (q : Portal) (n : ℕ) : Type 0 where
  pub first : Portal
  pub first_is : IsAt world.portals p first
  pub target : ℕ
  pub via : IsSeenVia world.tree first q target
  pub on_way : LiesOnWay world.tree via n
  pub not_found : IsIn found target → ⊥

-- and so via the portal of this number
pub record IsWantedVia (world : World) (p : ℕ) (found : List Bool) (number n : ℕ) : Type 0 where
  pub portal : Portal
  pub portal_is : IsAt world.portals number portal
  pub wanted : IsWanted world p found portal n
