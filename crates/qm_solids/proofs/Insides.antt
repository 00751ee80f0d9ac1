-- The points strictly inside a solid, said of its outward planes.
use Rattle.std.proofs.Common.{false, List, map, All, arith}
use Rattle.std.proofs.lemmas.Int.{ints}
use Rattle.std.proofs.lemmas.List.Elements.{All-weaker, All-map}
use Rattle.qm_lists.proofs.Elements.{All-from_map}
use Rattle.qm_space.specs.Point.{Point}
use Rattle.qm_space.specs.Plane.{Plane, IsBehind, IsInFront}
use Rattle.qm_space.specs.Turned.{turned}
use Rattle.qm_space.specs.Cell.{IsInCell}
use Rattle.qm_space.proofs.Planes.{flipped_in_front}
use Rattle.qm_solids.specs.Solid.{Solid}
use Rattle.qm_solids.specs.Holding.{IsInside, IsInFrontOfNone}

-- strictly inside is strictly behind each outward plane
pub behind_all : (outward : List Plane) (x : Point) → IsInCell (map (turned false) outward) x → All (λ h. IsBehind h x) outward
behind_all outward x inside =
    All-weaker (λ h. IsInFront (turned false h) x) (λ h. IsBehind h x) (λ h. (flipped_in_front h x).0) outward (All-from_map (λ h. IsInFront h x) (turned false) outward inside)

pub inside_of_behind : (outward : List Plane) (x : Point) → All (λ h. IsBehind h x) outward → IsInCell (map (turned false) outward) x
inside_of_behind outward x behind =
    All-map (λ h. IsInFront h x) (turned false) outward (All-weaker (λ h. IsBehind h x) (λ h. IsInFront (turned false h) x) (λ h. (flipped_in_front h x).1) outward behind)

-- a point strictly inside is in front of no plane
pub inside_in_front_of_none : (solid : Solid) (x : Point) → IsInside solid x → IsInFrontOfNone solid.outward x
inside_in_front_of_none solid x inside =
    let behind = behind_all solid.outward x inside in
    λ k h within. let at = behind k h within in omega (arith, ints, at)
