-- The leaves that portals enter.
use Rattle.std.specs.Prelude.{◌≡◌, ℕ, ◌<◌, List, All, Some, length, slice_get, slice_index_or}
use Rattle.qm_contacts.specs.Portals.{Portal}
use Rattle.qm_contacts.specs.World.{World}
use Rattle.qm_base.specs.inner.Following.{leaves_of_world}

-- a leaf for each portal: the one that it enters
pub record AreEnteredLeaves (world : World) (entered : List ℕ) : Type 0 where
  pub one_each : length entered ≡ length world.portals
  pub within : All (λ leaf. leaf < leaves_of_world world) entered
  pub each : (q : ℕ) (portal : Portal) → slice_get world.portals q ≡ Some portal → slice_index_or entered q 0 ≡ portal.to
