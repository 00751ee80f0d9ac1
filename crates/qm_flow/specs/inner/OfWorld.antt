use Rattle.std.specs.Prelude.{◌≡◌, Bool, List}
use Rattle.qm_contacts.specs.World.{World}
use Rattle.qm_chains.specs.inner.Frame.{Frame}
use Rattle.qm_chains.specs.inner.Pairs.{Pairs, ArePairs}
use Rattle.qm_chains.specs.inner.Walk.{AreWide}

-- all are of this world: the source answers for it, what is known of pairs holds in it for what is found, and rows have a place for
-- each of its numbered leaves
pub record AreOfWorld (world source_world : World) (pairs : Pairs) (frame : Frame) (found : List Bool) : Type 0 where
  pub same_world : source_world ≡ world
  pub pairs_are : ArePairs world found pairs
  pub wide : AreWide world frame found
