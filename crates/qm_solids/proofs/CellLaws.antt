-- Solids and cells: a solid that contains a cell holds its points, and a cell has at most one least candidate.
use Rattle.std.proofs.Common.{◌≡◌, ℕ, List, arith}
use Rattle.qm_space.specs.Point.{Point, IsInCube}
use Rattle.qm_space.specs.Plane.{Plane}
use Rattle.qm_space.specs.Cell.{IsInCell}
use Rattle.qm_solids.specs.Solid.{Solid}
use Rattle.qm_solids.specs.Holding.{Holds}
use Rattle.qm_solids.specs.Cells.{ContainsCell}
use Rattle.qm_solids.specs.Least.{IsLeastCandidate}
use Rattle.qm_solids.proofs.Insides.{inside_in_front_of_none}

-- a solid that contains a cell holds each of its points
pub holds_points_of_cell : (solid : Solid) (cell : List Plane) (x : Point) → ContainsCell solid cell → IsInCube x → IsInCell cell x → Holds solid x
holds_points_of_cell solid cell x contains in_cube in_cell =
    record { full = contains.full; not_in_front = inside_in_front_of_none solid x (contains.inside x in_cube in_cell) }

-- a cell has at most one least candidate
pub one_least : (solids : List Solid) (book cell : List Plane) (n m : ℕ) (h g : Plane) → IsLeastCandidate solids book cell n h → IsLeastCandidate solids book cell m g → n ≡ m
one_least solids book cell n m h g is_n is_m =
    let there = is_n.first m g is_m.is_one in
    let back = is_m.first n h is_n.is_one in
    let up = there.lesser_number back.axial_first in
    let down = back.lesser_number there.axial_first in
    omega (arith, up, down)
