use Rattle.qm_space.specs.Point.{Point}
use Rattle.qm_space.specs.Plane.{Plane}
use Rattle.qm_space.specs.Cube.{mirrored}
use Rattle.qm_convex.specs.Winding.{Winding}
use Rattle.qm_convex.specs.inner.Parallelogram.{IsBetweenPlanes, parallelogram}

-- strictly between a plane and the mirrored one
abbrev pub IsBetweenMirrored : Plane → Point → Type 0
IsBetweenMirrored a p = IsBetweenPlanes a (mirrored a) p

-- the part of a plane between two others and these mirrored
abbrev pub square : Plane → Plane → Plane → Winding
square h a b = parallelogram h a b (mirrored a) (mirrored b)
