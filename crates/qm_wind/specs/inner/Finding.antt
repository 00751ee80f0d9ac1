use Rattle.qm_space.specs.Plane.{Plane, flipped}
use Rattle.qm_convex.specs.Winding.{Winding}
use Rattle.qm_convex.specs.Sides.{HasCornerInFront, IsWhollyInFront, LiesIn}
use Rattle.qm_wind.specs.declared.found.Found.{Found}
use Rattle.qm_wind.specs.declared.found.Found.TheVariants.{Front, Back, On, Across}
use Rattle.qm_wind.specs.inner.Surveyed.{IsSurvey}

-- where a winding lies beside a plane, with the survey of its corners where some are on both sides
pub record HasCornersAcross (v : Winding) (g : Plane) : Type 0 where
  pub front : HasCornerInFront v g
  pub back : HasCornerInFront v (flipped g)

abbrev pub IsFound : Found → Winding → Plane → Type 0
IsFound Front v g = IsWhollyInFront v g
IsFound Back v g = IsWhollyInFront v (flipped g)
IsFound On v g = LiesIn v g
IsFound (Across s) v g = IsSurvey v g s × HasCornersAcross v g
