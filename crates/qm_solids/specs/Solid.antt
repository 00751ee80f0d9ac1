use Rattle.std.specs.Prelude.{false, List, map}
use Rattle.qm_space.specs.Plane.{Plane}
use Rattle.qm_space.specs.Turned.{turned}
use Rattle.qm_contents.specs.declared.contents.Contents.{Contents}

-- A solid is a part of space behind planes that are turned outward, with what fills it. It need not be bounded.
-- The contents of the same name are written `contents.Solid` wherever solids occur.
pub record Solid : Type 0 where
  pub contents : Contents
  pub outward : List Plane

-- its planes turned inward: the cell of these is the inside of the solid
abbrev pub inward : Solid → List Plane
inward solid = map (turned false) solid.outward
