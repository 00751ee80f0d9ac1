-- Cells are open: what is strictly in front of planes stays so when many times a point is moved by any four numbers.
use Rattle.std.proofs.Common.{◌≡◌, ℕ, ◌+◌, ◌≤◌, ℤ, pos, neg_ℤ, get_or, ◌+ℤ◌, ◌*ℤ◌, ◌<ℤ◌, ◌≤ℤ◌, List, [], ◌∷◌, All, unsigned_abs, refl, ap, ◌∙◌, arith}
use Rattle.std.proofs.lemmas.Int.{ints}
use Rattle.std.proofs.lemmas.List.Elements.{All-nil, All-cons}
use Rattle.qm_space.specs.Point.{Point, point_sum, point_times, IsInCube}
use Rattle.qm_space.specs.Plane.{Plane, value, IsBehind, IsInFront, IsNotInFront}
use Rattle.qm_space.specs.Reduced.{HasNormal}
use Rattle.qm_space.specs.Cell.{IsInCell}
use Rattle.qm_space.specs.Cube.{cube_walls}
use Rattle.qm_numbers.proofs.IntegerProducts.{linear, *ℤ_one, *ℤ_zero, *ℤ-neg}
use Rattle.qm_numbers.proofs.Signs.{by_sign, by_zero, by_least, times_at_most, product_positive, negative_times_negative, square_not_negative}
use Rattle.qm_space.proofs.Planes.{value_sum, value_times}
use Rattle.qm_space.proofs.Cubes.{cube_is_cell}

-- the point k · x, moved by the four numbers of v
abbrev pub moved : ℤ → Point → Point → Point
moved k x v = point_sum (point_times k x) v

pub value_moved : (h : Plane) (k : ℤ) (x v : Point) → value h (moved k x v) ≡ (k *ℤ value h x) +ℤ value h v
value_moved h k x v =
    let s = value_sum h (point_times k x) v in
    let t = value_times h k x in
    omega (arith, linear)

-- more than this many times a point outweighs the values at v of all these planes
unfoldable pub reach : List Plane → Point → ℕ
reach [] v = 0
reach (h ∷ cell) v = unsigned_abs (value h v) + reach cell v

pub each_within_reach : (cell : List Plane) (v : Point) → All (λ h. unsigned_abs (value h v) ≤ reach cell v) cell
unfolding reach
each_within_reach [] v = All-nil (λ h. unsigned_abs (value h v) ≤ reach [] v)
each_within_reach (g ∷ cell) v =
    let rest = each_within_reach cell v in
    All-cons (λ h. unsigned_abs (value h v) ≤ reach (g ∷ cell) v) g cell (omega arith)
    (λ k d within. let one = rest k d within in omega arith)

-- ---- one plane

-- a whole number above 0 times a positive number is at least it
at_least_factor : (k a : ℤ) → pos 0 ≤ℤ k → pos 0 <ℤ a → k ≤ℤ (k *ℤ a)
at_least_factor k a h l = let m = times_at_most k (pos 1) a h (omega (arith, ints)) in let e = *ℤ_one k in omega (arith, linear)

pub moved_in_front : (h : Plane) (x v : Point) (k : ℤ) (n : ℕ) → unsigned_abs (value h v) ≤ n → pos n <ℤ k → IsInFront h x → IsInFront h (moved k x v)
moved_in_front h x v k n within large front =
    let e = value_moved h k x v in
    let m = at_least_factor k (value h x) (omega (arith, ints)) front in
    let low : neg_ℤ (pos n) ≤ℤ value h v = omega (arith, ints) in
    omega (arith, linear)

pub moved_behind : (h : Plane) (x v : Point) (k : ℤ) (n : ℕ) → unsigned_abs (value h v) ≤ n → pos n <ℤ k → IsBehind h x → IsBehind h (moved k x v)
moved_behind h x v k n within large behind =
    let e = value_moved h k x v in
    let m = at_least_factor k (neg_ℤ (value h x)) (omega (arith, ints)) (omega (arith, linear)) in
    let t = *ℤ-neg k (value h x) in
    let high : value h v ≤ℤ pos n = omega (arith, ints) in
    omega (arith, linear)

-- ---- cells and the cube

pub moved_in_cell : (cell : List Plane) (x v : Point) (k : ℤ) → pos (reach cell v) <ℤ k → IsInCell cell x → IsInCell cell (moved k x v)
moved_in_cell cell x v k large inside =
    let within = each_within_reach cell v in
    λ place h there. moved_in_front (get_or cell place h) x v k (reach cell v) (within place h there) large (inside place h there)

pub moved_in_cube : (x v : Point) (k : ℤ) → pos (reach cube_walls v) <ℤ k → IsInCube x → IsInCube (moved k x v)
moved_in_cube x v k large inside =
    (cube_is_cell (moved k x v)).1 (moved_in_cell cube_walls x v k large ((cube_is_cell x).0 inside))

-- ---- what many times a point says of the point

-- a plane behind which many times x lies, moved by v, for numbers however large, does not have x in front
pub limit_not_in_front : (g : Plane) (x v : Point) → ((least : ℤ) → (k : ℤ) × (least <ℤ k) × IsBehind g (moved k x v)) → IsNotInFront g x
limit_not_in_front g x v often = by_least (pos 0) (value g x)
    (λ front.
    let found = often (pos (unsigned_abs (value g v))) in
    let ahead = moved_in_front g x v found.0 (unsigned_abs (value g v)) (omega arith) found.1 front in
    let behind = found.2 in
    absurd (omega (arith, linear)))
    (λ not. not)

-- ---- four numbers in front of a plane

-- the plane's own numbers
abbrev pub ahead : Plane → Point
ahead h = record { x = h.nx; y = h.ny; z = h.nz; w = neg_ℤ h.d }

value_ahead : (h : Plane) → value h (ahead h) ≡ (((h.nx *ℤ h.nx) +ℤ (h.ny *ℤ h.ny)) +ℤ (h.nz *ℤ h.nz)) +ℤ (h.d *ℤ h.d)
unfolding value
value_ahead h = let e = *ℤ-neg h.d h.d in omega (arith, linear)

square_positive : (a : ℤ) → (a ≡ pos 0 → ⊥) → pos 0 <ℤ (a *ℤ a)
square_positive a some = by_sign a (λ l. negative_times_negative a a l l) (λ e. absurd (some e)) (λ l. product_positive a a l l)

-- they are in front of it, unless all are 0
pub by_ahead : {P : Type 0} (h : Plane) → (IsInFront h (ahead h) → P) → (h.nx ≡ pos 0 → h.ny ≡ pos 0 → h.nz ≡ pos 0 → h.d ≡ pos 0 → P) → P
by_ahead h front none =
    let e = value_ahead h in
    let x = square_not_negative h.nx in let y = square_not_negative h.ny in let z = square_not_negative h.nz in let d = square_not_negative h.d in
    by_zero h.nx
    (λ zx. by_zero h.ny
    (λ zy. by_zero h.nz
    (λ zz. by_zero h.d
    (λ zd. none zx zy zz zd)
    (λ some. let l = square_positive h.d some in front (omega (arith, linear))))
    (λ some. let l = square_positive h.nz some in front (omega (arith, linear))))
    (λ some. let l = square_positive h.ny some in front (omega (arith, linear))))
    (λ some. let l = square_positive h.nx some in front (omega (arith, linear)))

pub ahead_in_front : (h : Plane) → HasNormal h → IsInFront h (ahead h)
ahead_in_front h normal = by_ahead h (λ front. front) (λ x y z d. absurd (normal x y z))

-- ---- worked rows

abbrev origin : Point
origin = record { x = pos 0; y = pos 0; z = pos 0; w = pos 1 }

-- many times the middle of the cube, moved by any four numbers, is in the cube
moved_row : IsInCube (moved (pos 1000000) origin (record { x = pos 1; y = neg_ℤ (pos 2); z = pos 3; w = pos 4 }))
unfolding reach value
moved_row = moved_in_cube origin (record { x = pos 1; y = neg_ℤ (pos 2); z = pos 3; w = pos 4 }) (pos 1000000) (omega (arith, ints)) (record {
  weight = omega (arith, ints);
  x = record { above = omega (arith, ints); below = omega (arith, ints) };
  y = record { above = omega (arith, ints); below = omega (arith, ints) };
  z = record { above = omega (arith, ints); below = omega (arith, ints) };
})

-- a plane through the middle, by points below it
limit_row : IsNotInFront (record { nx = pos 0; ny = pos 0; nz = pos 1; d = pos 0 }) origin
unfolding value
limit_row =
    let g : Plane = record { nx = pos 0; ny = pos 0; nz = pos 1; d = pos 0 } in
    let down : Point = record { x = pos 0; y = pos 0; z = neg_ℤ (pos 1); w = pos 0 } in
    limit_not_in_front g origin down (λ least. let k = pos (unsigned_abs least + 1) in (k, omega (arith, ints), below g down k refl refl))
  where
    below : (g : Plane) (v : Point) (k : ℤ) → value g origin ≡ pos 0 → value g v ≡ neg_ℤ (pos 1) → IsBehind g (moved k origin v)
    below g v k on step =
        let e = value_moved g k origin v in
        let z = ap (λ n. k *ℤ n) on ∙ *ℤ_zero k in
        omega (arith, linear)
