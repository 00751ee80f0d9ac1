use Rattle.std.specs.Prelude.{◌≡◌, Bool, true, false}
use Rattle.std.specs.Bool.{MatchBool}
use Rattle.qm_space.specs.Plane.{Plane, flipped}
use Rattle.qm_convex.specs.Winding.{Winding}
use Rattle.qm_convex.specs.Sides.{HasNoneInFront, HasSomeInFront, IsWhollyInFront}
use Rattle.qm_convex.specs.Cut.{IsPartInFront}
use Rattle.qm_wind.specs.declared.winding.Side.{Side}
use Rattle.qm_wind.specs.declared.winding.Side.TheVariants.{Front, Back}
use Rattle.qm_wind.specs.declared.winding.Clip.{Clip}
use Rattle.qm_wind.specs.declared.winding.Clip.TheVariants.{Whole, Gone, Cut}

-- whether the side is a plane's own front: to such a side a plane is `turned`
abbrev pub is_front : Side → Bool
is_front Front = true
is_front Back = false

-- what is left of a winding in front of a plane
abbrev pub IsClip : Clip → Winding → Plane → Type 0
IsClip Whole v g = IsWhollyInFront v g
IsClip Gone v g = HasNoneInFront v g
IsClip (Cut w) v g = IsPartInFront w v g × HasSomeInFront v (flipped g)

-- the winding v is cut down to w, its part in front of a plane, where something is left, and else stays as it is
abbrev pub IsCutDown : Bool → Winding → Winding → Plane → Type 0
IsCutDown left w v g = MatchBool left (IsPartInFront w v g) ((w ≡ v) × HasNoneInFront v g)
