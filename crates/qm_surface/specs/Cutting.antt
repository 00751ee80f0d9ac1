use Rattle.std.specs.Prelude.{◌==◌, ℕ, not, List, [], ◌∷◌, ◌++◌, Option, Some, None, option_to_list}
use Rattle.std.specs.List.{filter}
use Rattle.std.specs.Option.{MatchOption}
use Rattle.qm_space.specs.Plane.{Plane, flipped}
use Rattle.qm_convex.specs.Winding.{Winding}
use Rattle.qm_convex.specs.Sides.{HasNoneInFront}
use Rattle.qm_convex.specs.Cut.{IsPartInFront}
use Rattle.qm_solids.specs.declared.face.FaceRef.{FaceRef}
use Rattle.qm_solids.specs.Outward.{outward_planes}

-- A polygon is cut by the planes of a brush: what is in front of a plane is left, and what is behind goes on to the next plane.

-- the outward planes of those faces of a brush that do not lie on the plane of a number
abbrev pub cutters : List Plane → ℕ → List FaceRef → List Plane
cutters planes n faces = outward_planes planes (filter (λ face. not (face.plane == n)) faces)

-- the part of a polygon in front of a plane, where there is one
abbrev pub IsFrontPart : Option Winding → Winding → Plane → Type 0
IsFrontPart part w g = MatchOption part (HasNoneInFront w g) (λ v. IsPartInFront v w g)

-- planes cut a polygon: what is left in front of them, in their order, and what is behind all of them
pub data IsCarved : List Plane → Winding → List Winding → Option Winding → Type 0 where
  behind_all : {w : Winding} → IsCarved [] w [] (Some w)
  goes_on : {g : Plane} {planes : List Plane} {w behind : Winding} {left : List Winding} {inner : Option Winding} (front : Option Winding) →
      IsFrontPart front w g → IsPartInFront behind w (flipped g) → IsCarved planes behind left inner →
      IsCarved (g ∷ planes) w (option_to_list front ++ left) inner
  ends : {g : Plane} {planes : List Plane} {w : Winding} (front : Option Winding) →
      IsFrontPart front w g → HasNoneInFront w (flipped g) →
      IsCarved (g ∷ planes) w (option_to_list front) None

-- the same of some polygons, one after another
pub data AreCarved (planes : List Plane) : List Winding → List Winding → List Winding → Type 0 where
  none : AreCarved planes [] [] []
  more : {w : Winding} {rest left others inners : List Winding} {inner : Option Winding} →
      IsCarved planes w left inner → AreCarved planes rest others inners →
      AreCarved planes (w ∷ rest) (left ++ others) (option_to_list inner ++ inners)
