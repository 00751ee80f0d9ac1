-- A solid holds the points of its inside and of its border: those near which it has points strictly inside.
use Rattle.std.proofs.Common.{ℤ, pos, ◌≤ℤ◌, ◌<ℤ◌, false, get_or, List, map, arith}
use Rattle.std.proofs.lemmas.List.Elements.{All-map}
use Rattle.qm_space.specs.Point.{Point}
use Rattle.qm_space.specs.Plane.{Plane, IsNotBehind}
use Rattle.qm_space.specs.Turned.{turned}
use Rattle.qm_space.proofs.Planes.{value_flipped}
use Rattle.qm_space.proofs.Openness.{moved, limit_not_in_front}
use Rattle.qm_space.proofs.ClosedCells.{IsInClosedCell, cell_from_closed}
use Rattle.qm_numbers.proofs.IntegerProducts.{linear}
use Rattle.qm_solids.specs.Solid.{Solid, inward}
use Rattle.qm_solids.specs.Holding.{IsInside, IsInFrontOfNone}
use Rattle.qm_solids.proofs.Insides.{behind_all}

-- in front of no outward plane is behind no inward one
pub behind_no_inward : (outward : List Plane) (x : Point) → IsInFrontOfNone outward x → IsInClosedCell (map (turned false) outward) x
behind_no_inward outward x not_in_front =
    All-map (λ h. IsNotBehind h x) (turned false) outward
    (λ place h there. let its = value_flipped (get_or outward place h) x in let not = not_in_front place h there in omega (arith, linear, its, not))

-- many times a point that is in front of no plane, moved by a point inside, is inside
pub inside_near : (solid : Solid) (x v : Point) (k : ℤ) → pos 0 ≤ℤ k → IsInFrontOfNone solid.outward x → IsInside solid v → IsInside solid (moved k x v)
inside_near solid x v k least not_in_front inside =
    cell_from_closed (inward solid) x v k least (behind_no_inward solid.outward x not_in_front) inside

-- a point that, however many times it is taken, moved by some four numbers is inside, is in front of no plane
pub in_limit : (solid : Solid) (x v : Point) → ((least : ℤ) → (k : ℤ) × (least <ℤ k) × IsInside solid (moved k x v)) → IsInFrontOfNone solid.outward x
in_limit solid x v often =
    λ place h there. limit_not_in_front (get_or solid.outward place h) x v
    (λ least. let at = often least in (at.0, at.1, behind_all solid.outward (moved at.0 x v) at.2 place h there))
