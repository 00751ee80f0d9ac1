-- Planes that a cell has passed: no plane on whose side it lies has a candidate's points in it, and a cell in front of an
-- outward plane has no point on a face of the solid.
use Rattle.std.proofs.Common.{Bool, List, Contains, arith}
use Rattle.std.proofs.lemmas.List.Elements.{All-contains}
use Rattle.qm_numbers.proofs.IntegerProducts.{linear}
use Rattle.qm_space.specs.Point.{Point}
use Rattle.qm_space.specs.Plane.{Plane, IsOn, IsInFront}
use Rattle.qm_space.specs.Turned.{turned}
use Rattle.qm_space.proofs.TurnedPlanes.{turned_on}
use Rattle.qm_solids.specs.Solid.{Solid}
use Rattle.qm_solids.specs.Candidates.{IsSamePlane, IsOnFace, IsCandidate}
use Rattle.qm_solids.proofs.PlanesInCommon.{lies_on_points}

on_or_in_front : (h : Plane) (x : Point) → IsOn h x → IsInFront h x → ⊥
on_or_in_front h x on front = absurd (omega (arith, linear, on, front))

-- a plane to one of whose sides the cell is cut is no candidate in it
pub passed_is_none : (solids : List Solid) (cell : List Plane) (h : Plane) (side : Bool) → Contains cell (turned side h) → IsCandidate solids cell h → ⊥
passed_is_none solids cell h side among is =
    on_or_in_front (turned side h) is.point ((turned_on side h is.point).1 is.on_face.on) (All-contains (λ g. IsInFront g is.point) cell (turned side h) is.on_face.in_cell among)

-- what is in front of an outward plane is on no face
pub before_is_on_none : (solid : Solid) (cell : List Plane) (outward h : Plane) (x : Point) → Contains solid.outward outward → Contains cell outward → IsOnFace solid cell h x → ⊥
before_is_on_none solid cell outward h x has among on =
    let front = All-contains (λ g. IsInFront g x) cell outward on.in_cell among in
    let apart : IsSamePlane outward h → ⊥ = λ lies. on_or_in_front outward x ((lies_on_points outward h x lies).1 on.on) front in
    let behind = on.behind_others outward has apart in
    absurd (omega (arith, linear, front, behind))
