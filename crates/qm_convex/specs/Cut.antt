use Rattle.std.specs.Prelude.{◌≡◌, List, ◌∷◌, ◌++◌, ◌↔◌, ◌⊎◌}
use Rattle.qm_space.specs.Point.{Point}
use Rattle.qm_space.specs.Plane.{Plane, IsOn, IsInFront, flipped}
use Rattle.qm_space.specs.Cell.{IsInCell}
use Rattle.qm_convex.specs.Winding.{Winding, HasEdgesAmong, IsInRegion, IsConvex}

-- the winding w is the part of the winding v in front of the plane
pub record IsPartInFront (w v : Winding) (g : Plane) : Type 0 where
  pub convex : IsConvex w
  pub plane : w.plane ≡ v.plane
  pub points : (p : Point) → IsInRegion w p ↔ (IsInRegion v p × IsInFront g p)
  pub edges : HasEdgesAmong w (g ∷ v.edges)

-- the plane parts the winding v: it is made up of a winding in front, one behind, and what is on the plane
pub record IsParted (v : Winding) (g : Plane) (in_front behind : Winding) : Type 0 where
  pub part_in_front : IsPartInFront in_front v g
  pub part_behind : IsPartInFront behind v (flipped g)
  pub whole : (p : Point) → IsInRegion v p → IsInRegion in_front p ⊎ (IsInRegion behind p ⊎ IsOn g p)

-- no point of the winding is in the cell of the planes
abbrev pub HasNoneWithin : Winding → List Plane → Type 0
HasNoneWithin v gs = (p : Point) → IsInRegion v p → IsInCell gs p → ⊥

-- the winding w is the part of the winding v in the cell of the planes
pub record IsPartWithin (w v : Winding) (gs : List Plane) : Type 0 where
  pub convex : IsConvex w
  pub plane : w.plane ≡ v.plane
  pub points : (p : Point) → IsInRegion w p ↔ (IsInRegion v p × IsInCell gs p)
  pub edges : HasEdgesAmong w (gs ++ v.edges)
