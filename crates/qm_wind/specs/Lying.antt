use Rattle.std.specs.Prelude.{IsTrue, ◌↔◌}
use Rattle.qm_space.specs.Plane.{Plane, flipped}
use Rattle.qm_convex.specs.Winding.{Winding}
use Rattle.qm_convex.specs.Sides.{HasSomeInFront, IsWhollyInFront, LiesIn, HasCornerInFront, HasCornerBehind}
use Rattle.qm_wind.specs.declared.corner_sides.CornerSides.{CornerSides}
use Rattle.qm_wind.specs.declared.lies.Lies.{Lies}
use Rattle.qm_wind.specs.declared.lies.Lies.TheVariants.{Front, Back, Across, On}

-- where a winding lies beside a plane
abbrev pub IsLying : Lies → Winding → Plane → Type 0
IsLying Front v g = IsWhollyInFront v g
IsLying Back v g = IsWhollyInFront v (flipped g)
IsLying Across v g = HasSomeInFront v g × HasSomeInFront v (flipped g)
IsLying On v g = LiesIn v g

-- on which sides of a plane it has corners
pub record AreCornerSides (sides : CornerSides) (v : Winding) (g : Plane) : Type 0 where
  pub in_front : IsTrue sides.in_front ↔ HasCornerInFront v g
  pub behind : IsTrue sides.behind ↔ HasCornerBehind v g
