use Rattle.std.specs.Prelude.{List, All, Contains}
use Rattle.qm_space.specs.Point.{Point}
use Rattle.qm_space.specs.Cube.{IsInClosedCube}
use Rattle.qm_space.specs.Cuboid.{Cuboid}
use Rattle.qm_solids.specs.Solid.{Solid}
use Rattle.qm_solids.specs.Holding.{IsFull, Holds}
use Rattle.qm_solids.specs.Flat.{IsFlat}
use Rattle.qm_facets.specs.Extent.{IsLeastCuboid}

-- a point of the closed cube that one of some solids holds
pub record IsHeldPoint (solids : List Solid) (x : Point) : Type 0 where
  pub in_cube : IsInClosedCube x
  pub solid : Solid
  pub listed : Contains solids solid
  pub holds : Holds solid x

-- the box of a model: the least with whole corners that has all points that its solids hold
abbrev pub IsModelBox : List Solid → Cuboid → Type 0
IsModelBox solids box = IsLeastCuboid (IsHeldPoint solids) box

-- one of the solids is full
pub record HasFull (solids : List Solid) : Type 0 where
  pub solid : Solid
  pub listed : Contains solids solid
  pub full : IsFull solid

-- none is: then there is no model of them
abbrev pub HasNoFull : List Solid → Type 0
HasNoFull solids = All IsFlat solids
