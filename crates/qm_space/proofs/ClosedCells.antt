-- Points of a cell or of its border: many times such a point, moved by a point of the cell, lies in the cell.
use Rattle.std.proofs.Common.{ℤ, pos, ◌≤ℤ◌, get_or, List, All, arith}
use Rattle.qm_space.specs.Point.{Point, IsInCube}
use Rattle.qm_space.specs.Plane.{Plane, value, IsInFront, IsNotBehind}
use Rattle.qm_space.specs.Cell.{IsInCell}
use Rattle.qm_space.specs.Cube.{cube_walls}
use Rattle.qm_numbers.proofs.IntegerProducts.{linear}
use Rattle.qm_numbers.proofs.Signs.{product_not_negative}
use Rattle.qm_space.proofs.Cubes.{cube_is_cell}
use Rattle.qm_space.proofs.Openness.{moved, value_moved}

-- a point of the cell or of its border: behind none of the planes
abbrev pub IsInClosedCell : List Plane → Point → Type 0
IsInClosedCell cell x = All (λ h. IsNotBehind h x) cell

pub cell_is_closed : (cell : List Plane) (x : Point) → IsInCell cell x → IsInClosedCell cell x
cell_is_closed cell x inside = λ place h there. let front = inside place h there in omega (arith, linear, front)

pub front_from_closed : (h : Plane) (x v : Point) (k : ℤ) → pos 0 ≤ℤ k → IsNotBehind h x → IsInFront h v → IsInFront h (moved k x v)
front_from_closed h x v k least not_behind front =
    let its = value_moved h k x v in
    let times = product_not_negative k (value h x) least not_behind in
    omega (arith, linear)

pub cell_from_closed : (cell : List Plane) (x v : Point) (k : ℤ) → pos 0 ≤ℤ k → IsInClosedCell cell x → IsInCell cell v → IsInCell cell (moved k x v)
cell_from_closed cell x v k least closed inside =
    λ place h there. front_from_closed (get_or cell place h) x v k least (closed place h there) (inside place h there)

-- the cube is such a cell
pub cube_from_cube : (x v : Point) (k : ℤ) → pos 0 ≤ℤ k → IsInCube x → IsInCube v → IsInCube (moved k x v)
cube_from_cube x v k least x_in v_in =
    (cube_is_cell (moved k x v)).1
    (cell_from_closed cube_walls x v k least (cell_is_closed cube_walls x ((cube_is_cell x).0 x_in)) ((cube_is_cell v).0 v_in))
