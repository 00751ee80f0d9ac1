-- The walls of the cube: a plane mirrored at the origin, the values of the walls, and the cube as the cell of its walls.
use Rattle.std.proofs.Common.{◌≡◌, ℤ, pos, neg_ℤ, ◌+ℤ◌, ◌*ℤ◌, ◌<ℤ◌, ◌≤ℤ◌, [], All, ◌↔◌, arith, subst}
use Rattle.std.specs.Int.{◌∣◌}
use Rattle.std.proofs.lemmas.Int.{ints}
use Rattle.std.proofs.lemmas.List.Elements.{All-from_recursion}
use Rattle.std.proofs.Math.Nat.{eq-one_of_dvd-one}
use Rattle.qm_space.specs.Bounds.{extent}
use Rattle.qm_space.specs.Point.{Point, IsInCube}
use Rattle.qm_space.specs.Plane.{Plane, value, IsInFront}
use Rattle.qm_space.specs.Reduced.{IsReduced}
use Rattle.qm_space.specs.Cell.{IsInCell}
use Rattle.qm_space.specs.Cube.{mirrored, wall_x, wall_y, wall_z, cube_walls, IsInClosedCube}
use Rattle.qm_numbers.proofs.IntegerProducts.{linear}
use Rattle.qm_numbers.proofs.Signs.{abs_neg, positive_beside}
use Rattle.qm_numbers.proofs.Ring.{Expression, number, variable, negated, ◌⊕◌, ◌⊗◌, solved}
use Rattle.qm_space.proofs.PlaneSymbols.{PlaneSymbols, PointSymbols, plane_from, point_from, numbers_of_plane, numbers_of_point, symbol_value}

-- ---- the walls and mirrored planes in symbols

abbrev pub symbol_mirrored : PlaneSymbols → PlaneSymbols
symbol_mirrored a = record { nx = negated a.nx; ny = negated a.ny; nz = negated a.nz; d = a.d }

abbrev pub symbol_wall_x : PlaneSymbols
symbol_wall_x = record { nx = number (pos 1); ny = number (pos 0); nz = number (pos 0); d = number (neg_ℤ extent) }

abbrev pub symbol_wall_y : PlaneSymbols
symbol_wall_y = record { nx = number (pos 0); ny = number (pos 1); nz = number (pos 0); d = number (neg_ℤ extent) }

abbrev pub symbol_wall_z : PlaneSymbols
symbol_wall_z = record { nx = number (pos 0); ny = number (pos 0); nz = number (pos 1); d = number (neg_ℤ extent) }

-- ---- values

-- the values of a plane and the mirrored one add up to the width between them
pub mirrored_sum : (a : Plane) (p : Point) → value a p +ℤ value (mirrored a) p ≡ (neg_ℤ a.d *ℤ p.w) +ℤ (neg_ℤ a.d *ℤ p.w)
unfolding value
mirrored_sum a p =
    let e = plane_from 0 in let q = point_from 4 in
    solved (numbers_of_plane a (numbers_of_point p [])) (symbol_value e q ⊕ symbol_value (symbol_mirrored e) q) (negated e.d ⊗ q.w ⊕ negated e.d ⊗ q.w) tt

-- a wall's value, and that of the mirrored wall
module _ (p : Point) where
  abbrev q : PointSymbols
  q = point_from 0

  abbrev low : Expression → Expression
  low x = x ⊕ number extent ⊗ variable 3

  abbrev high : Expression → Expression
  high x = negated x ⊕ number extent ⊗ variable 3

  pub x_low : value wall_x p ≡ p.x +ℤ (extent *ℤ p.w)
  unfolding value
  x_low = solved (numbers_of_point p []) (symbol_value symbol_wall_x q) (low q.x) tt

  pub x_high : value (mirrored wall_x) p ≡ neg_ℤ p.x +ℤ (extent *ℤ p.w)
  unfolding value
  x_high = solved (numbers_of_point p []) (symbol_value (symbol_mirrored symbol_wall_x) q) (high q.x) tt

  pub y_low : value wall_y p ≡ p.y +ℤ (extent *ℤ p.w)
  unfolding value
  y_low = solved (numbers_of_point p []) (symbol_value symbol_wall_y q) (low q.y) tt

  pub y_high : value (mirrored wall_y) p ≡ neg_ℤ p.y +ℤ (extent *ℤ p.w)
  unfolding value
  y_high = solved (numbers_of_point p []) (symbol_value (symbol_mirrored symbol_wall_y) q) (high q.y) tt

  pub z_low : value wall_z p ≡ p.z +ℤ (extent *ℤ p.w)
  unfolding value
  z_low = solved (numbers_of_point p []) (symbol_value symbol_wall_z q) (low q.z) tt

  pub z_high : value (mirrored wall_z) p ≡ neg_ℤ p.z +ℤ (extent *ℤ p.w)
  unfolding value
  z_high = solved (numbers_of_point p []) (symbol_value (symbol_mirrored symbol_wall_z) q) (high q.z) tt

-- ---- the cube is the cell of its walls

pub cube_is_cell : (p : Point) → IsInCube p ↔ IsInCell cube_walls p
cube_is_cell p =
    let xl = x_low p in let xh = x_high p in let yl = y_low p in let yh = y_high p in let zl = z_low p in let zh = z_high p in (
      (λ c. let xa = c.x.above in let xb = c.x.below in let ya = c.y.above in let yb = c.y.below in let za = c.z.above in let zb = c.z.below in
          All-from_recursion (λ h. IsInFront h p) cube_walls
          (omega (arith, linear), (omega (arith, linear), (omega (arith, linear), (omega (arith, linear), (omega (arith, linear), (omega (arith, linear), tt))))))),
      (λ a.
          let xa = a 0 wall_x (omega arith) in let ya = a 1 wall_x (omega arith) in let za = a 2 wall_x (omega arith) in
          let xb = a 3 wall_x (omega arith) in let yb = a 4 wall_x (omega arith) in let zb = a 5 wall_x (omega arith) in
          record {
            weight = weight (p.x) (p.w) (omega (arith, linear)) (omega (arith, linear));
            x = record { above = omega (arith, linear); below = omega (arith, linear) };
            y = record { above = omega (arith, linear); below = omega (arith, linear) };
            z = record { above = omega (arith, linear); below = omega (arith, linear) };
          }),
    )
  where
    weight : (x w : ℤ) → pos 0 <ℤ (x +ℤ (extent *ℤ w)) → pos 0 <ℤ (neg_ℤ x +ℤ (extent *ℤ w)) → pos 0 <ℤ w
    weight x w h k = positive_beside extent w (omega (arith, ints)) (omega (arith, linear))

-- a point that no wall has behind it is in the closed cube
pub closed_from_walls : (p : Point) → pos 0 <ℤ p.w → All (λ h. pos 0 ≤ℤ value h p) cube_walls → IsInClosedCube p
closed_from_walls p w a =
    let xl = x_low p in let xh = x_high p in let yl = y_low p in let yh = y_high p in let zl = z_low p in let zh = z_high p in
    let xa = a 0 wall_x (omega arith) in let ya = a 1 wall_x (omega arith) in let za = a 2 wall_x (omega arith) in
    let xb = a 3 wall_x (omega arith) in let yb = a 4 wall_x (omega arith) in let zb = a 5 wall_x (omega arith) in
    record {
      weight = w;
      x = record { above = omega (arith, linear); below = omega (arith, linear) };
      y = record { above = omega (arith, linear); below = omega (arith, linear) };
      z = record { above = omega (arith, linear); below = omega (arith, linear) };
    }

-- and the closed cube has no point behind a wall
pub walls_from_closed : (p : Point) → IsInClosedCube p → All (λ h. pos 0 ≤ℤ value h p) cube_walls
walls_from_closed p c =
    let xl = x_low p in let xh = x_high p in let yl = y_low p in let yh = y_high p in let zl = z_low p in let zh = z_high p in
    let xa = c.x.above in let xb = c.x.below in let ya = c.y.above in let yb = c.y.below in let za = c.z.above in let zb = c.z.below in
    All-from_recursion (λ h. pos 0 ≤ℤ value h p) cube_walls
    (omega (arith, linear), (omega (arith, linear), (omega (arith, linear), (omega (arith, linear), (omega (arith, linear), (omega (arith, linear), tt))))))

-- the cube is in the closed cube
pub cube_in_closed : (p : Point) → IsInCube p → IsInClosedCube p
cube_in_closed p c =
    let xa = c.x.above in let xb = c.x.below in let ya = c.y.above in let yb = c.y.below in let za = c.z.above in let zb = c.z.below in
    record {
      weight = c.weight;
      x = record { above = omega (arith, linear); below = omega (arith, linear) };
      y = record { above = omega (arith, linear); below = omega (arith, linear) };
      z = record { above = omega (arith, linear); below = omega (arith, linear) };
    }

-- the origin is in front of each wall
origin_row : IsInCell cube_walls (record { x = pos 0; y = pos 0; z = pos 0; w = pos 1 })
origin_row = (cube_is_cell (record { x = pos 0; y = pos 0; z = pos 0; w = pos 1 })).0 record {
  weight = omega (arith, ints);
  x = record { above = omega (arith, ints); below = omega (arith, ints) };
  y = record { above = omega (arith, ints); below = omega (arith, ints) };
  z = record { above = omega (arith, ints); below = omega (arith, ints) };
}

-- ---- the walls and the mirrored ones are in lowest terms

pub wall_x_reduced : IsReduced wall_x
wall_x_reduced = record { normal = λ e f g. absurd (omega (arith, ints)); lowest = λ k d e f g. eq-one_of_dvd-one d; nx_small = omega arith; ny_small = omega arith; nz_small = omega arith; d_small = omega arith }

pub wall_y_reduced : IsReduced wall_y
wall_y_reduced = record { normal = λ e f g. absurd (omega (arith, ints)); lowest = λ k d e f g. eq-one_of_dvd-one e; nx_small = omega arith; ny_small = omega arith; nz_small = omega arith; d_small = omega arith }

pub wall_z_reduced : IsReduced wall_z
wall_z_reduced = record { normal = λ e f g. absurd (omega (arith, ints)); lowest = λ k d e f g. eq-one_of_dvd-one f; nx_small = omega arith; ny_small = omega arith; nz_small = omega arith; d_small = omega arith }

pub mirrored_reduced : (a : Plane) → IsReduced a → IsReduced (mirrored a)
mirrored_reduced a r = record {
  normal = λ e f g. r.normal (omega (arith, ints)) (omega (arith, ints)) (omega (arith, ints));
  lowest = λ k d e f g. r.lowest k (subst (λ m. k ∣ m) (abs_neg a.nx) d) (subst (λ m. k ∣ m) (abs_neg a.ny) e) (subst (λ m. k ∣ m) (abs_neg a.nz) f) g;
  nx_small = let s = r.nx_small in let e = abs_neg a.nx in omega arith;
  ny_small = let s = r.ny_small in let e = abs_neg a.ny in omega arith;
  nz_small = let s = r.nz_small in let e = abs_neg a.nz in omega arith;
  d_small = r.d_small;
}
