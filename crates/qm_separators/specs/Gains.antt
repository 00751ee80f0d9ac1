use Rattle.std.specs.Prelude.{List, Contains, ◌↔◌, ◌⊎◌}
use Rattle.qm_space.specs.Plane.{Plane}
use Rattle.qm_space.specs.Book.{AreDistinct}

-- the new list has the planes of the old one and those with a property, and no other, and none twice that was not before
pub record Gains (Has : Plane → Type 0) (old new : List Plane) : Type 0 where
  pub members : (h : Plane) → Contains new h ↔ (Contains old h ⊎ Has h)
  pub once : AreDistinct old → AreDistinct new

-- the list has exactly the planes with a property
abbrev pub HasExactly : (Plane → Type 0) → List Plane → Type 0
HasExactly Has planes = (h : Plane) → Contains planes h ↔ Has h
