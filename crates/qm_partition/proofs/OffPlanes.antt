-- In a cell that has a point some point is on no node plane.
use Rattle.std.proofs.Common.{◌≡◌, ◌<◌, ◌+◌, ℕ, suc, ℤ, pos, ◌*ℤ◌, List, [], ◌∷◌, All, length, ap, ◌∙◌, arith}
use Rattle.std.proofs.lemmas.Int.{ints}
use Rattle.std.proofs.lemmas.List.Elements.{All-nil, All-cons, All-head, All-tail, All-weaker}
use Rattle.qm_space.specs.Point.{Point, IsInCube}
use Rattle.qm_space.specs.Plane.{Plane, value, IsInFront, flipped}
use Rattle.qm_space.specs.Reduced.{HasNormal}
use Rattle.qm_space.specs.Cell.{IsInCell}
use Rattle.qm_space.specs.Cube.{cube_walls}
use Rattle.qm_space.specs.Book.{plane_at}
use Rattle.qm_numbers.proofs.IntegerProducts.{linear, *ℤ_zero}
use Rattle.qm_numbers.proofs.Signs.{by_sign}
use Rattle.qm_space.proofs.Planes.{value_flipped, flipped_in_front}
use Rattle.qm_space.proofs.Openness.{moved, value_moved, reach, moved_in_cell, moved_in_cube, ahead, ahead_in_front}
use Rattle.qm_partition.specs.Tree.{Tree, NamesItsPlanes}
use Rattle.qm_partition.specs.Counting.{node_planes}
use Rattle.qm_partition.specs.LeafOfPoint.{node_value}
use Rattle.qm_partition.proofs.NodePlanes.{IsOff}

-- a point of the cube and of the cell that is on none of the planes of these numbers
pub record IsOffPlace (planes : List Plane) (numbers : List ℕ) (cell : List Plane) : Type 0 where
  pub point : Point
  pub in_cube : IsInCube point
  pub in_cell : IsInCell cell point
  pub off : All (IsOff planes point) numbers

-- a plane that the point has in front of it, or behind it, does not hold the point
in_front_is_off : (planes : List Plane) (n : ℕ) (x : Point) → IsInFront (plane_at planes n) x → IsOff planes x n
unfolding node_value
in_front_is_off planes n x front on = absurd (omega (arith, linear, front, on))

flipped_is_off : (planes : List Plane) (n : ℕ) (x : Point) → IsInFront (flipped (plane_at planes n)) x → IsOff planes x n
unfolding node_value
flipped_is_off planes n x front on = let e = value_flipped (plane_at planes n) x in absurd (omega (arith, linear, front, on))

-- what is found on one side of a plane is off it
one_more : (planes : List Plane) (n : ℕ) (numbers : List ℕ) (cell : List Plane) (side : Plane) → ((x : Point) → IsInFront side x → IsOff planes x n) → IsOffPlace planes numbers (side ∷ cell) → IsOffPlace planes (n ∷ numbers) cell
one_more planes n numbers cell side off found = record {
  point = found.point;
  in_cube = found.in_cube;
  in_cell = All-tail (λ h. IsInFront h found.point) side cell found.in_cell;
  off = All-cons (IsOff planes found.point) n numbers (off found.point (All-head (λ h. IsInFront h found.point) side cell found.in_cell)) found.off;
}

-- one plane more, where below each cell that has a point a place is found
place_off : (planes : List Plane) (n : ℕ) (numbers : List ℕ) (cell : List Plane) (x : Point) → HasNormal (plane_at planes n) → ((below : List Plane) (y : Point) → IsInCube y → IsInCell below y → IsOffPlace planes numbers below) → IsInCube x → IsInCell cell x → IsOffPlace planes (n ∷ numbers) cell
place_off planes n numbers cell x normal found in_cube in_cell =
    let h = plane_at planes n in
    by_sign (value h x)
    (λ behind. on_side (flipped h) (λ z. flipped_is_off planes n z) x in_cube in_cell ((flipped_in_front h x).1 behind))
    (λ on.
    let v = ahead h in
    let k : ℕ = suc (reach cell v + reach cube_walls v) in
    let its = value_moved h (pos k) x v in
    let none : pos k *ℤ value h x ≡ pos 0 = ap (λ (z : ℤ). pos k *ℤ z) on ∙ *ℤ_zero (pos k) in
    let front = ahead_in_front h normal in
    on_side h (λ z. in_front_is_off planes n z) (moved (pos k) x v) (moved_in_cube x v (pos k) (omega (arith, ints)) in_cube) (moved_in_cell cell x v (pos k) (omega (arith, ints)) in_cell) (omega (arith, linear)))
    (λ front. on_side h (λ z. in_front_is_off planes n z) x in_cube in_cell front)
  where
    on_side : (side : Plane) → ((z : Point) → IsInFront side z → IsOff planes z n) → (y : Point) → IsInCube y → IsInCell cell y → IsInFront side y → IsOffPlace planes (n ∷ numbers) cell
    on_side side off y y_cube y_cell front =
        one_more planes n numbers cell side off (found (side ∷ cell) y y_cube (All-cons (λ g. IsInFront g y) side cell front y_cell))

pub off_place : (planes : List Plane) (numbers : List ℕ) (cell : List Plane) (x : Point) → All (λ n. HasNormal (plane_at planes n)) numbers → IsInCube x → IsInCell cell x → IsOffPlace planes numbers cell
off_place planes [] cell x normals in_cube in_cell = record { point = x; in_cube = in_cube; in_cell = in_cell; off = All-nil (IsOff planes x) }
off_place planes (n ∷ numbers) cell x normals in_cube in_cell =
    place_off planes n numbers cell x (All-head (λ m. HasNormal (plane_at planes m)) n numbers normals)
    (λ below y y_cube y_cell. off_place planes numbers below y (All-tail (λ m. HasNormal (plane_at planes m)) n numbers normals) y_cube y_cell) in_cube in_cell

-- the planes of a tree's nodes have normals
pub node_normals : (tree : Tree) → NamesItsPlanes tree → All HasNormal tree.planes → All (λ n. HasNormal (plane_at tree.planes n)) (node_planes tree.shape)
node_normals tree named normals =
    All-weaker (λ n. n < length tree.planes) (λ n. HasNormal (plane_at tree.planes n))
    (λ n within. normals n (record { nx = pos 0; ny = pos 0; nz = pos 0; d = pos 0 }) within) (node_planes tree.shape) named
