use Rattle.std.specs.Prelude.{◌≤ℤ◌, List, All}
use Rattle.qm_space.specs.Point.{Point}
use Rattle.qm_space.specs.Plane.{Plane, IsNotBehind}
use Rattle.qm_space.specs.Cube.{IsInClosedCube}
use Rattle.qm_space.specs.Cuboid.{Stretch, Cuboid, IsInCuboid}

-- Cuboids that have all points of some kind, and the least of them.

-- one stretch lies in another
pub record IsStretchWithin (inner outer : Stretch) : Type 0 where
  pub low : outer.low ≤ℤ inner.low
  pub high : inner.high ≤ℤ outer.high

-- one cuboid lies in another
pub record IsCuboidWithin (inner outer : Cuboid) : Type 0 where
  pub x : IsStretchWithin inner.x outer.x
  pub y : IsStretchWithin inner.y outer.y
  pub z : IsStretchWithin inner.z outer.z

-- each point of a kind lies in the cuboid
abbrev pub HasEachPoint : (Point → Type 0) → Cuboid → Type 0
HasEachPoint Is c = (x : Point) → Is x → IsInCuboid c x

-- it lies in every cuboid that has them all
pub record IsLeastCuboid (Is : Point → Type 0) (c : Cuboid) : Type 0 where
  pub has_all : HasEachPoint Is c
  pub least : (other : Cuboid) → HasEachPoint Is other → IsCuboidWithin c other

-- a point of the closed cube that is behind no plane of a cell
pub record IsInClosure (cell : List Plane) (x : Point) : Type 0 where
  pub in_cube : IsInClosedCube x
  pub not_behind : All (λ g. IsNotBehind g x) cell
