use Rattle.std.specs.Prelude.{◌≡◌, List}
use Rattle.qm_partition.specs.Ways.{HasPoints}
use Rattle.qm_contacts.specs.Meeting.{meetings}
use Rattle.qm_contacts.specs.Touching.{Touching, AreTouchings}
use Rattle.qm_contacts.specs.Portals.{portals_of}
use Rattle.qm_contacts.specs.World.{World}

-- each leaf of the world's tree has a point, and its portals are exactly those between its touching leaves
pub record HasOwnPortals (world : World) : Type 0 where
  pub have_points : HasPoints world.tree
  pub touchings : List Touching
  pub are_touchings : AreTouchings world.tree.planes (meetings world.tree) touchings
  pub portals_are : world.portals ≡ portals_of world.tree touchings
