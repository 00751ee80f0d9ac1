use Rattle.std.specs.Prelude.{◌≡◌, Bool, Result, Ok, Err, Option, None, Some}
use Rattle.qm_space.specs.Plane.{Plane}
use Rattle.qm_space.specs.Reduced.{HasNormal, HasNoNormal, HasSmallNormal, HasLargeNormal}
use Rattle.qm_space.specs.ThreePoints.{in_lowest_terms}
use Rattle.qm_geom.specs.declared.through_fault.ThroughFault.{ThroughFault}
use Rattle.qm_geom.specs.declared.through_fault.ThroughFault.TheVariants.{NoNormal, TooFine}

-- what is answered of a plane that is brought to lowest terms
abbrev pub IsLowestAnswer : Plane → Result (Plane × Bool) ThroughFault → Type 0
IsLowestAnswer out (Ok r) = HasNormal out × (r ≡ in_lowest_terms out) × HasSmallNormal r.0
IsLowestAnswer out (Err NoNormal) = HasNoNormal out
IsLowestAnswer out (Err TooFine) = HasNormal out × HasLargeNormal (in_lowest_terms out).0

-- what is answered where its fault alone is asked for
abbrev pub IsLowestFault : Plane → Option ThroughFault → Type 0
IsLowestFault out None = HasNormal out × HasSmallNormal (in_lowest_terms out).0
IsLowestFault out (Some NoNormal) = HasNoNormal out
IsLowestFault out (Some TooFine) = HasNormal out × HasLargeNormal (in_lowest_terms out).0
