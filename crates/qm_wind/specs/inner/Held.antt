use Rattle.qm_space.specs.Cuboid.{Cuboid}
use Rattle.qm_convex.specs.Winding.{Winding}
use Rattle.qm_convex.specs.World.{IsInWorld, LiesWithin}

-- what is true of each winding in code with the cuboid beside it
pub record HasCuboid (v : Winding) (c : Cuboid) : Type 0 where
  pub in_world : IsInWorld v
  pub within : LiesWithin v c
