use Rattle.std.specs.Prelude.{◌≡◌}
use Rattle.std.specs.List.{AllZip}
use Rattle.qm_space.specs.Multiple.{IsPositiveMultiple}
use Rattle.qm_solids.specs.Solid.{Solid}

-- The same part of space with the same contents: the contents are the same, and each plane of the first is a positive
-- multiple of the one at its place in the second.
pub record IsAlike (solid other : Solid) : Type 0 where
  pub same_contents : solid.contents ≡ other.contents
  pub multiples : AllZip IsPositiveMultiple solid.outward other.outward
