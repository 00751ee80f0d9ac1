use Rattle.std.specs.Prelude.{◌≡◌, ◌↔◌}
use Rattle.qm_space.specs.Point.{Point}
use Rattle.qm_space.specs.Plane.{Plane, IsInFront}
use Rattle.qm_convex.specs.Winding.{Winding, IsInRegion, IsConvex}

-- A part of a winding by planes that a property gives.

-- the point is in front of each plane with the property
abbrev pub IsInFrontOfEach : (Plane → Type 0) → Point → Type 0
IsInFrontOfEach Has p = (h : Plane) → Has h → IsInFront h p

-- the winding w is the part of the winding v in front of each plane with the property
pub record IsPartBy (w v : Winding) (Has : Plane → Type 0) : Type 0 where
  pub convex : IsConvex w
  pub plane : w.plane ≡ v.plane
  pub points : (p : Point) → IsInRegion w p ↔ (IsInRegion v p × IsInFrontOfEach Has p)

-- no point of the winding is in front of each of them
abbrev pub HasNoPartBy : Winding → (Plane → Type 0) → Type 0
HasNoPartBy v Has = (p : Point) → IsInRegion v p → IsInFrontOfEach Has p → ⊥

-- both windings have the same points
abbrev pub HasSameRegion : Winding → Winding → Type 0
HasSameRegion v w = (p : Point) → IsInRegion v p ↔ IsInRegion w p
