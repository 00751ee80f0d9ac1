use Rattle.std.specs.Prelude.{◌≡◌}
use Rattle.qm_space.specs.Plane.{Plane, flipped}
use Rattle.qm_convex.specs.Winding.{Winding}
use Rattle.qm_convex.specs.Sides.{IsWhollyInFront, LiesIn}
use Rattle.qm_convex.specs.Cut.{IsPartInFront}
use Rattle.qm_wind.specs.declared.severed.Severed.{Severed}
use Rattle.qm_wind.specs.declared.severed.Severed.TheVariants.{Front, Back, On, Across}

-- a plane severs the winding v: the winding w is left of it, its part in front where it has points on both sides
abbrev pub IsSevered : Severed → Winding → Winding → Plane → Type 0
IsSevered Front v w g = (w ≡ v) × IsWhollyInFront v g
IsSevered Back v w g = (w ≡ v) × IsWhollyInFront v (flipped g)
IsSevered On v w g = (w ≡ v) × LiesIn v g
IsSevered (Across behind) v w g = IsPartInFront w v g × IsPartInFront behind.value v (flipped g)
