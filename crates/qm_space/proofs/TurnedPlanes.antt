-- The laws of a plane that is turned to one of its sides.
use Rattle.std.proofs.Common.{◌≡◌, Bool, true, false, not, ◌↔◌, refl, sym}
use Rattle.qm_space.specs.Point.{Point}
use Rattle.qm_space.specs.Plane.{Plane, IsBehind, IsOn, IsInFront, flipped}
use Rattle.qm_space.specs.Reduced.{HasNormal, IsReduced}
use Rattle.qm_space.specs.Turned.{turned}
use Rattle.qm_space.proofs.Planes.{flipped_on, flipped_behind, flipped_in_front}
use Rattle.qm_space.proofs.ReducedPlanes.{flipped_twice, flipped_has_normal, flipped_is_reduced}

-- the points on it are those on the plane
pub turned_on : (side : Bool) (h : Plane) (p : Point) → IsOn (turned side h) p ↔ IsOn h p
turned_on true h p = ((λ e. e), (λ e. e))
turned_on false h p = flipped_on h p

-- to the other side it is flipped, and its sides are exchanged
pub turned_other : (side : Bool) (h : Plane) → turned (not side) h ≡ flipped (turned side h)
turned_other true h = refl
turned_other false h = sym (flipped_twice h)

pub turned_other_in_front : (side : Bool) (h : Plane) (p : Point) → IsInFront (turned (not side) h) p ↔ IsBehind (turned side h) p
turned_other_in_front true h p = flipped_in_front h p
turned_other_in_front false h p = let e = flipped_behind h p in (e.1, e.0)

pub turned_has_normal : (side : Bool) (h : Plane) → HasNormal h → HasNormal (turned side h)
turned_has_normal true h n = n
turned_has_normal false h n = flipped_has_normal h n

-- a plane in lowest terms stays so
pub turned_is_reduced : (side : Bool) (h : Plane) → IsReduced h → IsReduced (turned side h)
turned_is_reduced true h r = r
turned_is_reduced false h r = flipped_is_reduced h r
