use Rattle.std.specs.Prelude.{Bool, true, false}
use Rattle.qm_space.specs.Plane.{Plane, flipped}

-- the plane turned to one of its sides: that side is in front of it; true names the plane's own front, false its back
abbrev pub turned : Bool → Plane → Plane
turned true h = h
turned false h = flipped h
