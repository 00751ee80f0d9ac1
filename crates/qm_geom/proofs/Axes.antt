-- Planes across an axis, in lowest terms.
use Rattle.std.proofs.Common.{◌≡◌, ◌∙◌, ◌<◌, ◌≤◌, ℕ, ℤ, pos, ◌*ℤ◌, Bool, List, Ok, None, ap, refl, sym, subst, lit≤, w32, w64, FitsSigned, int_div, to_z, arith, unsigned_abs, eq-zero-or-pos, ⊎_elim}
use Rattle.std.specs.Int.{◌∣◌}
use Rattle.std.proofs.lemmas.Int.{ints, to_z-of_z, to_z_pos, quot_fits}
use Rattle.std.proofs.lemmas.Nat.Gcd.{dvd_refl, le_of_dvd}
use Rattle.std.proofs.Math.Nat.{eq-zero_of_zero-dvd, dvd-mul_right}
use Rattle.qm_numbers.proofs.Divisors.{gcd_divides_right, divides_gcd, exact_division}
use Rattle.qm_numbers.proofs.Bits.{kept_32, kept_64}
use Rattle.qm_numbers.proofs.Kept.{kept, fits_64, quotient_small}
use Rattle.qm_numbers.proofs.Signs.{abs_product, cancel_equal}
use Rattle.qm_space.specs.Bounds.{normal_bound, thousandths_bound}
use Rattle.qm_space.specs.Point.{Point, thousandths_point, IsCoordinate, IsThousandths}
use Rattle.qm_space.specs.Plane.{Plane, plane_of, IsOn}
use Rattle.qm_space.specs.Reduced.{leads_positive, HasNormal, HasNormalUpTo, HasSmallNormal, IsReduced}
use Rattle.qm_space.specs.Turned.{turned}
use Rattle.qm_space.specs.ThreePoints.{common_factor, reduced}
use Rattle.qm_space.proofs.AxialPlanes.{reduced_x, reduced_y, reduced_z, lowest_along_x, lowest_along_y, lowest_along_z}
use Rattle.qm_space.proofs.CoordinateSizes.{thousandths_small}
use Rattle.qm_space.proofs.NormalSizes.{normal_up_to_more, reduced_up_to}
use Rattle.qm_space.proofs.ReducedPlanes.{reduced_is_reduced}
use Rattle.qm_geom.specs.declared.axis.Axis.{Axis}
use Rattle.qm_geom.specs.declared.axis.Axis.TheVariants.{X, Y, Z}
use Rattle.qm_geom.specs.inner.Lowest.{IsLowestAnswer, IsLowestFault}
use Rattle.qm_geom.specs.inner.Axes.{HasNormalAlong, plane_across, coordinate_factor}

-- a plane whose normal lies along an axis is the one across it at a point of its own
pub lowest_along : (axis : Axis) (h : Plane) (at : List ℤ) → HasNormal h → IsOn h (thousandths_point at) → HasNormalAlong h axis → reduced (turned (leads_positive h) h) ≡ reduced (plane_across axis (thousandths_point at))
lowest_along X h at normal on along = lowest_along_x h at normal on along.0 along.1
lowest_along Y h at normal on along = lowest_along_y h at normal on along.0 along.1
lowest_along Z h at normal on along = lowest_along_z h at normal on along.0 along.1

across_small : (axis : Axis) (p : Point) → HasNormalUpTo 1000 (plane_across axis p)
across_small X p = record { x = omega arith; y = omega arith; z = omega arith }
across_small Y p = record { x = omega arith; y = omega arith; z = omega arith }
across_small Z p = record { x = omega arith; y = omega arith; z = omega arith }

pub lowest_across_small : (axis : Axis) (p : Point) → HasSmallNormal (reduced (plane_across axis p))
lowest_across_small axis p =
    normal_up_to_more 1000 normal_bound (reduced (plane_across axis p)) (omega arith) (reduced_up_to 1000 (plane_across axis p) (across_small axis p))

-- ---- they are planes

is_plane : (h : Plane) → HasNormal h → HasNormalUpTo 1000 h → IsThousandths h.d → IsReduced (reduced h)
unfolding reduced
is_plane h normal small inside =
    let d = quotient_small h.d (common_factor h) in let c = thousandths_small h.d inside in
    reduced_is_reduced h normal (normal_up_to_more 1000 normal_bound (reduced h) (omega arith) (reduced_up_to 1000 h small)) (omega arith)

pub x_is_plane : (c : ℤ) → IsThousandths c → IsReduced (reduced (plane_of (pos 1000) (pos 0) (pos 0) c))
x_is_plane c inside = is_plane (plane_of (pos 1000) (pos 0) (pos 0) c) (λ x y z. absurd (omega (arith, ints))) (across_small X (record { x = c; y = c; z = c; w = c })) inside

pub y_is_plane : (c : ℤ) → IsThousandths c → IsReduced (reduced (plane_of (pos 0) (pos 1000) (pos 0) c))
y_is_plane c inside = is_plane (plane_of (pos 0) (pos 1000) (pos 0) c) (λ x y z. absurd (omega (arith, ints))) (across_small Y (record { x = c; y = c; z = c; w = c })) inside

pub z_is_plane : (c : ℤ) → IsThousandths c → IsReduced (reduced (plane_of (pos 0) (pos 0) (pos 1000) c))
z_is_plane c inside = is_plane (plane_of (pos 0) (pos 0) (pos 1000) c) (λ x y z. absurd (omega (arith, ints))) (across_small Z (record { x = c; y = c; z = c; w = c })) inside

-- ---- the factor of a coordinate and 1000

pub factor_positive : (c : ℤ) → 0 < coordinate_factor c
factor_positive c = ⊎_elim (λ zero. absurd (none zero)) (λ some. some) (eq-zero-or-pos (coordinate_factor c))
  where
    none : coordinate_factor c ≡ 0 → ⊥
    none zero = let e = eq-zero_of_zero-dvd (subst (λ (k : ℕ). k ∣ 1000) zero (gcd_divides_right (unsigned_abs c) 1000)) in absurd (omega arith)

pub factor_small : (c : ℤ) → coordinate_factor c ≤ 1000
factor_small c = le_of_dvd (omega arith) (gcd_divides_right (unsigned_abs c) 1000)

-- a whole coordinate in thousandths, by that factor
module _ (c w : ℤ) (whole : c ≡ pos 1000 *ℤ w) where
  divides : 1000 ∣ unsigned_abs c
  divides = subst (λ (n : ℕ). 1000 ∣ n) (sym (ap unsigned_abs whole ∙ abs_product (pos 1000) w)) (dvd-mul_right 1000 (unsigned_abs w))

  pub whole_factor : 1000 ≡ coordinate_factor c
  whole_factor =
      let less = factor_small c in
      let more : 1000 ≤ coordinate_factor c = le_of_dvd (factor_positive c) (divides_gcd (unsigned_abs c) 1000 1000 divides (dvd_refl 1000)) in
      omega arith

  pub whole_over : w ≡ int_div c (pos (coordinate_factor c))
  whole_over =
      sym (cancel_equal (pos 1000) (int_div c (pos 1000)) w (λ zero. absurd (omega (arith, ints))) (exact_division c 1000 divides ∙ whole))
      ∙ ap (λ (k : ℕ). int_div c (pos k)) whole_factor

  pub whole_under : pos 1 ≡ int_div (pos 1000) (pos (coordinate_factor c))
  whole_under = ap (λ (k : ℕ). int_div (pos 1000) (pos k)) whole_factor

-- ---- as code holds them

pub whole_fits : (w : ℤ) → IsCoordinate w → FitsSigned w32 w
whole_fits w inside = let l = inside.low in let h = inside.high in omega (arith, ints)

-- a coordinate as it is passed on
pub coordinate_held : (c : ℤ) → IsThousandths c → kept w32 c ≡ c
coordinate_held c inside = kept_32 c thousandths_bound (thousandths_small c inside) (lit≤ tt)

-- its quotient by the factor
pub divided_fits : (c n : ℤ) (k : ℕ) → IsThousandths c → n ≡ kept w32 c → k ≡ coordinate_factor c → FitsSigned w64 (int_div (kept w64 n) (to_z w64 k))
divided_fits c n k inside same factor =
    let l = thousandths_small c inside in let p = factor_positive c in let s = factor_small c in
    let f : FitsSigned w64 c = fits_64 c thousandths_bound l (lit≤ tt) in
    rw (same, coordinate_held c inside, to_z-of_z w64 c f, factor, to_z_pos w64 (coordinate_factor c) (omega arith))
    (quot_fits w64 c (pos (coordinate_factor c)) f (omega (arith, ints)))

module _ (c under over : ℤ) (inside : IsThousandths c) (u : under ≡ int_div (pos 1000) (pos (coordinate_factor (kept w32 c)))) (o : over ≡ int_div (kept w32 c) (pos (coordinate_factor (kept w32 c)))) where
  under_is : under ≡ int_div (pos 1000) (pos (coordinate_factor c))
  under_is = u ∙ ap (λ (n : ℤ). int_div (pos 1000) (pos (coordinate_factor n))) (coordinate_held c inside)

  over_is : over ≡ int_div c (pos (coordinate_factor c))
  over_is = o ∙ ap (λ (n : ℤ). int_div n (pos (coordinate_factor n))) (coordinate_held c inside)

  under_kept : kept w32 under ≡ int_div (pos 1000) (pos (coordinate_factor c))
  under_kept = let s = quotient_small (pos 1000) (coordinate_factor c) in kept_32 under 1000 (subst (λ (n : ℤ). unsigned_abs n ≤ 1000) (sym under_is) (omega arith)) (lit≤ tt) ∙ under_is

  over_kept : kept w64 over ≡ int_div c (pos (coordinate_factor c))
  over_kept =
      let s = quotient_small c (coordinate_factor c) in let l = thousandths_small c inside in
      kept_64 over thousandths_bound (subst (λ (n : ℤ). unsigned_abs n ≤ thousandths_bound) (sym over_is) (omega arith)) (lit≤ tt) ∙ over_is

  pub x_kept : plane_of (kept w32 under) (pos 0) (pos 0) (kept w64 over) ≡ reduced (plane_of (pos 1000) (pos 0) (pos 0) c)
  x_kept = (λ i. plane_of (under_kept i) (pos 0) (pos 0) (over_kept i)) ∙ reduced_x c (coordinate_factor c) refl

  pub y_kept : plane_of (pos 0) (kept w32 under) (pos 0) (kept w64 over) ≡ reduced (plane_of (pos 0) (pos 1000) (pos 0) c)
  y_kept = (λ i. plane_of (pos 0) (under_kept i) (pos 0) (over_kept i)) ∙ reduced_y c (coordinate_factor c) refl

  pub z_kept : plane_of (pos 0) (pos 0) (kept w32 under) (kept w64 over) ≡ reduced (plane_of (pos 0) (pos 0) (pos 1000) c)
  z_kept = (λ i. plane_of (pos 0) (pos 0) (under_kept i) (over_kept i)) ∙ reduced_z c (coordinate_factor c) refl

-- ---- what is answered of a plane whose normal lies along an axis

module _ (axis : Axis) (h : Plane) (at : List ℤ) (normal : HasNormal h) (on : IsOn h (thousandths_point at)) (along : HasNormalAlong h axis) where
  pub axial_answer : (g : Plane) (lead : Bool) → g ≡ reduced (plane_across axis (thousandths_point at)) → lead ≡ leads_positive h → IsLowestAnswer h (Ok (g, lead))
  axial_answer g lead is leads =
      let e = is ∙ sym (lowest_along axis h at normal on along) in
      (normal, λ i. (e i, leads i), subst (λ (p : Plane). HasSmallNormal p) (sym is) (lowest_across_small axis (thousandths_point at)))

  pub axial_fault : IsLowestFault h None
  axial_fault = (normal, subst (λ (p : Plane). HasSmallNormal p) (sym (lowest_along axis h at normal on along)) (lowest_across_small axis (thousandths_point at)))
