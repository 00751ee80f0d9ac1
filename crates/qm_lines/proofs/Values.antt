-- A plane's value at a whole point, as the code computes it.
use Rattle.std.proofs.Common.{◌≡◌, ℕ, ◌+◌, ◌-◌, ◌≤◌, ◌*◌, ◌^◌, ◌∙◌, FitsSigned, ℤ, pos, neg_ℤ, ◌+ℤ◌, ◌-ℤ◌, ◌*ℤ◌, w32, w64, List, [], ◌∷◌, get_or, refl, arith, lit≤, unsigned_abs}
use mir.Syntax.{w128}
use Rattle.std.proofs.lemmas.Int.{ints, to_z-of_z}
use Rattle.std.proofs.Math.IntN.{*ℤ_comm}
use Rattle.std.proofs.lemmas.List.Elements.{All-from_recursion}
use Rattle.qm_numbers.proofs.IntegerProducts.{linear, *ℤ_one, neg-*ℤ}
use Rattle.qm_numbers.proofs.Bits.{kept_32}
use Rattle.qm_numbers.proofs.Kept.{kept, fits_64, fits_128, sum_fits, sum_kept, difference_fits, difference_kept, product_fits, product_kept, three_size, three_is}
use Rattle.qm_numbers.proofs.Signs.{abs_sum, abs_difference, abs_product_bound}
use Rattle.qm_space.specs.Bounds.{world_extent, normal_bound, product_bound, distance_bound}
use Rattle.qm_space.specs.Point.{Point, whole_point, IsCoordinate, AreCoordinates}
use Rattle.qm_space.specs.Plane.{Plane, value}
use Rattle.qm_space.proofs.CoordinateSizes.{coordinate_small, coordinate_kept}

-- a component of a normal as it is passed on
pub component_kept : (n : ℤ) → unsigned_abs n ≤ normal_bound → unsigned_abs (kept w32 n) ≤ normal_bound
component_kept n h = rw (kept_32 n normal_bound h (lit≤ tt)) h

-- a component times a coordinate
pub part_is : (r n c : ℤ) → unsigned_abs n ≤ normal_bound → IsCoordinate c → r ≡ kept w32 n *ℤ kept w32 c → r ≡ n *ℤ c
part_is r n c h k e = e ∙ rw (kept_32 n normal_bound h (lit≤ tt), kept_32 c world_extent (coordinate_small c k) (lit≤ tt)) refl

pub whole_value : (h : Plane) (at : List ℤ) (x y z : ℤ) → x ≡ h.nx *ℤ get_or at 0 (pos 0) → y ≡ h.ny *ℤ get_or at 1 (pos 0) → z ≡ h.nz *ℤ get_or at 2 (pos 0) → ((x +ℤ y) +ℤ z) -ℤ h.d ≡ value h (whole_point at)
unfolding value
whole_value h at x y z e f g = let one = *ℤ_one h.d in omega (arith, linear)

-- ---- three parts and a distance, as the code adds them

module _ (n m : ℕ) (room : 3 * n + m ≤ 2 ^ 63 - 1) (x y z : ℤ) (x_small : unsigned_abs x ≤ n) (y_small : unsigned_abs y ≤ n) (z_small : unsigned_abs z ≤ n) where
  two_small : unsigned_abs (x +ℤ y) ≤ 2 * n
  two_small = let s = abs_sum x y in omega arith

  three_small : unsigned_abs ((x +ℤ y) +ℤ z) ≤ 3 * n
  three_small = let s = abs_sum (x +ℤ y) z in let t = two_small in omega arith

  x_fits : FitsSigned w64 x
  x_fits = fits_64 x n x_small (let r = room in omega arith)

  y_fits : FitsSigned w64 y
  y_fits = fits_64 y n y_small (let r = room in omega arith)

  z_fits : FitsSigned w64 z
  z_fits = fits_64 z n z_small (let r = room in omega arith)

  two_fits : FitsSigned w64 (x +ℤ y)
  two_fits = fits_64 (x +ℤ y) (2 * n) two_small (let r = room in omega arith)

  three_fits : FitsSigned w64 ((x +ℤ y) +ℤ z)
  three_fits = fits_64 ((x +ℤ y) +ℤ z) (3 * n) three_small (let r = room in omega arith)

  two_kept : kept w64 (kept w64 x +ℤ kept w64 y) ≡ x +ℤ y
  two_kept = sum_kept w64 x y x_fits y_fits two_fits

  pub two_fit : FitsSigned w64 (kept w64 x +ℤ kept w64 y)
  two_fit = sum_fits w64 x y x_fits y_fits two_fits

  pub three_fit : FitsSigned w64 (kept w64 (kept w64 x +ℤ kept w64 y) +ℤ kept w64 z)
  three_fit = rw (two_kept, to_z-of_z w64 z z_fits) three_fits

  three_kept : kept w64 (kept w64 (kept w64 x +ℤ kept w64 y) +ℤ kept w64 z) ≡ (x +ℤ y) +ℤ z
  three_kept = rw (two_kept, to_z-of_z w64 z z_fits) (to_z-of_z w64 ((x +ℤ y) +ℤ z) three_fits)

  module _ (d : ℤ) (d_small : unsigned_abs d ≤ m) where
    less_small : unsigned_abs (((x +ℤ y) +ℤ z) -ℤ d) ≤ 3 * n + m
    less_small = let s = abs_difference ((x +ℤ y) +ℤ z) d in let t = three_small in omega arith

    d_fits : FitsSigned w64 d
    d_fits = fits_64 d m d_small (let r = room in omega arith)

    pub less_fits : FitsSigned w64 (kept w64 (kept w64 (kept w64 x +ℤ kept w64 y) +ℤ kept w64 z) -ℤ kept w64 d)
    less_fits = rw (three_kept, to_z-of_z w64 d d_fits) (fits_64 (((x +ℤ y) +ℤ z) -ℤ d) (3 * n + m) less_small room)

    pub less_kept : kept w64 (kept w64 (kept w64 (kept w64 x +ℤ kept w64 y) +ℤ kept w64 z) -ℤ kept w64 d) ≡ ((x +ℤ y) +ℤ z) -ℤ d
    less_kept = rw (three_kept, to_z-of_z w64 d d_fits) (to_z-of_z w64 (((x +ℤ y) +ℤ z) -ℤ d) (fits_64 (((x +ℤ y) +ℤ z) -ℤ d) (3 * n + m) less_small room))

    pub less_kept_small : (k : ℕ) → 3 * n + m ≤ k → unsigned_abs (kept w64 (kept w64 (kept w64 (kept w64 x +ℤ kept w64 y) +ℤ kept w64 z) -ℤ kept w64 d)) ≤ k
    less_kept_small k enough = rw less_kept (let s = less_small in omega arith)

-- a product of which one number is a plane's value
pub wide_size : (a b : ℤ) → FitsSigned w64 a → unsigned_abs b ≤ 2 ^ 45 → unsigned_abs (a *ℤ b) ≤ 2 ^ 108
wide_size a b h k = abs_product_bound a b (2 ^ 63) (2 ^ 45) (size a h) k
  where
    size : (a : ℤ) → FitsSigned w64 a → unsigned_abs a ≤ 2 ^ 63
    size a h = omega (arith, ints)

-- ---- a number times a coordinate

module _ (n p c : ℤ) (small : unsigned_abs n ≤ 2 ^ 45) (is : p ≡ kept w32 c) (k : IsCoordinate c) where
  scaled_size : unsigned_abs (n *ℤ c) ≤ 2 ^ 60
  scaled_size = abs_product_bound n c (2 ^ 45) (2 ^ 15) small (coordinate_small c k)

  passed : p ≡ c
  passed = is ∙ kept_32 c world_extent (coordinate_small c k) (lit≤ tt)

  pub scaled_fits : FitsSigned w64 (kept w64 n *ℤ kept w64 p)
  scaled_fits = rw passed (product_fits w64 n c (fits_64 n _ small (lit≤ tt)) (fits_64 c _ (coordinate_small c k) (lit≤ tt)) (fits_64 (n *ℤ c) _ scaled_size (lit≤ tt)))

  pub scaled_is : kept w64 (kept w64 n *ℤ kept w64 p) ≡ n *ℤ c
  scaled_is = rw passed (product_kept w64 n c (fits_64 n _ small (lit≤ tt)) (fits_64 c _ (coordinate_small c k) (lit≤ tt)) (fits_64 (n *ℤ c) _ scaled_size (lit≤ tt)))

  pub scaled_small : unsigned_abs (kept w64 (kept w64 n *ℤ kept w64 p)) ≤ 2 ^ 60
  scaled_small = rw scaled_is scaled_size

-- ---- the difference of two such numbers

module _ (a b : ℤ) (a_small : unsigned_abs a ≤ 2 ^ 60) (b_small : unsigned_abs b ≤ 2 ^ 60) where
  apart_size : unsigned_abs (a -ℤ b) ≤ 2 ^ 61
  apart_size = let s = abs_difference a b in omega arith

  pub apart_64_fits : FitsSigned w64 (kept w64 a -ℤ kept w64 b)
  apart_64_fits = difference_fits w64 a b (fits_64 a _ a_small (lit≤ tt)) (fits_64 b _ b_small (lit≤ tt)) (fits_64 (a -ℤ b) _ apart_size (lit≤ tt))

  pub apart_64_is : kept w64 (kept w64 a -ℤ kept w64 b) ≡ a -ℤ b
  apart_64_is = difference_kept w64 a b (fits_64 a _ a_small (lit≤ tt)) (fits_64 b _ b_small (lit≤ tt)) (fits_64 (a -ℤ b) _ apart_size (lit≤ tt))

wider : (z : ℤ) → unsigned_abs z ≤ 2 ^ 45 → unsigned_abs z ≤ 2 ^ 60
wider z h = omega arith

-- ---- so many times one coordinate, less so many times another

module _ (f t b e : ℤ) (f_small : unsigned_abs f ≤ 2 ^ 45) (t_small : unsigned_abs t ≤ 2 ^ 45) where
  f_is : kept w64 f ≡ f
  f_is = to_z-of_z w64 f (fits_64 f _ f_small (lit≤ tt))

  t_is : kept w64 t ≡ t
  t_is = to_z-of_z w64 t (fits_64 t _ t_small (lit≤ tt))

  coordinate_is : (c : ℤ) → IsCoordinate c → kept w32 c ≡ c
  coordinate_is c k = kept_32 c world_extent (coordinate_small c k) (lit≤ tt)

  pub mixed_number : (v w : ℤ) → unsigned_abs v ≤ 2 ^ 60 → unsigned_abs w ≤ 2 ^ 60 → IsCoordinate b → IsCoordinate e → v ≡ kept w64 f *ℤ kept w32 b → w ≡ kept w64 t *ℤ kept w32 e →
      kept w64 (kept w64 v -ℤ kept w64 w) ≡ (f *ℤ b) +ℤ (neg_ℤ t *ℤ e)
  mixed_number v w v_small w_small b_is e_is v_is w_is =
      let x : v ≡ f *ℤ b = v_is ∙ rw (f_is, coordinate_is b b_is) refl in
      let y : w ≡ t *ℤ e = w_is ∙ rw (t_is, coordinate_is e e_is) refl in
      let n = neg-*ℤ t e in
      let same : v -ℤ w ≡ (f *ℤ b) +ℤ (neg_ℤ t *ℤ e) = omega (arith, linear) in
      apart_64_is v w v_small w_small ∙ same

  pub mixed_answered : (r : ℤ) → FitsSigned w64 r → IsCoordinate b → IsCoordinate e → r ≡ (kept w64 f *ℤ kept w32 b) +ℤ (neg_ℤ (kept w64 t) *ℤ kept w32 e) → kept w64 r ≡ (f *ℤ b) +ℤ (neg_ℤ t *ℤ e)
  mixed_answered r fits b_is e_is r_is = to_z-of_z w64 r fits ∙ r_is ∙ rw (f_is, t_is, coordinate_is b b_is, coordinate_is e e_is) refl

  pub mixed_weight_fits : FitsSigned w64 (kept w64 f -ℤ kept w64 t)
  mixed_weight_fits = apart_64_fits f t (wider f f_small) (wider t t_small)

  pub mixed_weight : kept w64 (kept w64 f -ℤ kept w64 t) ≡ (f *ℤ pos 1) +ℤ (neg_ℤ t *ℤ pos 1)
  mixed_weight =
      let one = *ℤ_one f in
      let other = *ℤ_one (neg_ℤ t) in
      let same : f -ℤ t ≡ (f *ℤ pos 1) +ℤ (neg_ℤ t *ℤ pos 1) = omega (arith, linear) in
      apart_64_is f t (wider f f_small) (wider t t_small) ∙ same

-- ---- a plane's value at a point, of four products

module _ (x y z far : ℤ) (x_small : unsigned_abs x ≤ 2 ^ 108) (y_small : unsigned_abs y ≤ 2 ^ 108) (z_small : unsigned_abs z ≤ 2 ^ 108) (far_small : unsigned_abs far ≤ 2 ^ 108) where
  four_size : unsigned_abs (((x +ℤ y) +ℤ z) -ℤ far) ≤ 4 * 2 ^ 108
  four_size = let s = three_size x y z (2 ^ 108) x_small y_small z_small in let t = abs_difference ((x +ℤ y) +ℤ z) far in omega arith

  pub four_fits : FitsSigned w128 (kept w128 (kept w128 (kept w128 x +ℤ kept w128 y) +ℤ kept w128 z) -ℤ kept w128 far)
  four_fits =
      rw (three_is x y z (2 ^ 108) x_small y_small z_small (lit≤ tt), to_z-of_z w128 far (fits_128 far _ far_small (lit≤ tt)))
      (fits_128 (((x +ℤ y) +ℤ z) -ℤ far) _ four_size (lit≤ tt))

  pub four_are : kept w128 (kept w128 (kept w128 (kept w128 x +ℤ kept w128 y) +ℤ kept w128 z) -ℤ kept w128 far) ≡ ((x +ℤ y) +ℤ z) -ℤ far
  four_are =
      rw (three_is x y z (2 ^ 108) x_small y_small z_small (lit≤ tt), to_z-of_z w128 far (fits_128 far _ far_small (lit≤ tt)))
      (to_z-of_z w128 (((x +ℤ y) +ℤ z) -ℤ far) (fits_128 (((x +ℤ y) +ℤ z) -ℤ far) _ four_size (lit≤ tt)))

pub spot_product : (r p n k : ℤ) → FitsSigned w64 p → unsigned_abs n ≤ normal_bound → k ≡ kept w32 n → r ≡ kept w64 p *ℤ kept w64 k → r ≡ p *ℤ n
spot_product r p n k fits small k_is r_is =
    let same = k_is ∙ kept_32 n normal_bound small (lit≤ tt) in
    r_is ∙ rw (same, to_z-of_z w64 p fits, to_z-of_z w64 n (fits_64 n _ small (lit≤ tt))) refl

pub spot_distance : (r p d : ℤ) → FitsSigned w64 p → unsigned_abs d ≤ distance_bound → r ≡ kept w64 p *ℤ kept w64 d → r ≡ p *ℤ d
spot_distance r p d fits small r_is = r_is ∙ rw (to_z-of_z w64 p fits, to_z-of_z w64 d (fits_64 d _ small (lit≤ tt))) refl

pub spot_value : (h : Plane) (p : Point) (x y z far : ℤ) → x ≡ p.x *ℤ h.nx → y ≡ p.y *ℤ h.ny → z ≡ p.z *ℤ h.nz → far ≡ p.w *ℤ h.d → ((x +ℤ y) +ℤ z) -ℤ far ≡ value h p
unfolding value
spot_value h p x y z far e f g k =
    let a = *ℤ_comm p.x h.nx in
    let b = *ℤ_comm p.y h.ny in
    let c = *ℤ_comm p.z h.nz in
    let d = *ℤ_comm p.w h.d in
    omega (arith, linear)

-- ---- the same where the numbers are short

module _ (p n k : ℤ) (p_small : unsigned_abs p ≤ 2 ^ 33) (n_small : unsigned_abs n ≤ normal_bound) (is : k ≡ kept w32 n) where
  along_size : unsigned_abs (p *ℤ n) ≤ 2 ^ 59
  along_size = abs_product_bound p n (2 ^ 33) normal_bound p_small n_small

  component_is : k ≡ n
  component_is = is ∙ kept_32 n normal_bound n_small (lit≤ tt)

  pub along_fits : FitsSigned w64 (kept w64 p *ℤ kept w64 k)
  along_fits = rw component_is (product_fits w64 p n (fits_64 p _ p_small (lit≤ tt)) (fits_64 n _ n_small (lit≤ tt)) (fits_64 (p *ℤ n) _ along_size (lit≤ tt)))

  pub along_is : kept w64 (kept w64 p *ℤ kept w64 k) ≡ p *ℤ n
  along_is = rw component_is (product_kept w64 p n (fits_64 p _ p_small (lit≤ tt)) (fits_64 n _ n_small (lit≤ tt)) (fits_64 (p *ℤ n) _ along_size (lit≤ tt)))

  pub along_small : unsigned_abs (kept w64 (kept w64 p *ℤ kept w64 k)) ≤ 2 ^ 59
  along_small = rw along_is along_size

module _ (p d : ℤ) (p_small : unsigned_abs p ≤ 2 ^ 18) (d_small : unsigned_abs d ≤ distance_bound) where
  far_size : unsigned_abs (p *ℤ d) ≤ 2 ^ 62
  far_size = abs_product_bound p d (2 ^ 18) distance_bound p_small d_small

  pub far_fits : FitsSigned w64 (kept w64 p *ℤ kept w64 d)
  far_fits = product_fits w64 p d (fits_64 p _ p_small (lit≤ tt)) (fits_64 d _ d_small (lit≤ tt)) (fits_64 (p *ℤ d) _ far_size (lit≤ tt))

  pub far_is : kept w64 (kept w64 p *ℤ kept w64 d) ≡ p *ℤ d
  far_is = product_kept w64 p d (fits_64 p _ p_small (lit≤ tt)) (fits_64 d _ d_small (lit≤ tt)) (fits_64 (p *ℤ d) _ far_size (lit≤ tt))

  pub far_small : unsigned_abs (kept w64 (kept w64 p *ℤ kept w64 d)) ≤ 2 ^ 62
  far_small = rw far_is far_size

-- such products of numbers that are passed on
pub short_part : (r p n : ℤ) → unsigned_abs p ≤ 2 ^ 33 → unsigned_abs n ≤ normal_bound → r ≡ kept w64 p *ℤ kept w32 n → r ≡ p *ℤ n
short_part r p n p_small n_small r_is = r_is ∙ rw (to_z-of_z w64 p (fits_64 p _ p_small (lit≤ tt)), kept_32 n normal_bound n_small (lit≤ tt)) refl

pub short_distance : (r p d : ℤ) → unsigned_abs p ≤ 2 ^ 18 → unsigned_abs d ≤ distance_bound → r ≡ kept w64 p *ℤ kept w64 d → r ≡ p *ℤ d
short_distance r p d p_small d_small r_is = r_is ∙ rw (to_z-of_z w64 p (fits_64 p _ p_small (lit≤ tt)), to_z-of_z w64 d (fits_64 d _ d_small (lit≤ tt))) refl

pub short_value : (z : ℤ) → unsigned_abs z ≤ 2 ^ 17 → unsigned_abs z ≤ 2 ^ 45
short_value z h = omega arith

-- so many times one coordinate, less so many times another, is short
module _ (f t b e : ℤ) (f_small : unsigned_abs f ≤ 2 ^ 17) (t_small : unsigned_abs t ≤ 2 ^ 17) where
  opposite : unsigned_abs (neg_ℤ t) ≤ 2 ^ 17
  opposite = omega (arith, ints)

  pub mixed_short : IsCoordinate b → IsCoordinate e → unsigned_abs ((f *ℤ b) +ℤ (neg_ℤ t *ℤ e)) ≤ 2 ^ 33
  mixed_short b_is e_is =
      let s = abs_sum (f *ℤ b) (neg_ℤ t *ℤ e) in
      let first : unsigned_abs (f *ℤ b) ≤ 2 ^ 32 = abs_product_bound f b (2 ^ 17) (2 ^ 15) f_small (coordinate_small b b_is) in
      let second : unsigned_abs (neg_ℤ t *ℤ e) ≤ 2 ^ 32 = abs_product_bound (neg_ℤ t) e (2 ^ 17) (2 ^ 15) opposite (coordinate_small e e_is) in
      omega arith

  pub weight_short : unsigned_abs ((f *ℤ pos 1) +ℤ (neg_ℤ t *ℤ pos 1)) ≤ 2 ^ 18
  weight_short =
      let s = abs_sum (f *ℤ pos 1) (neg_ℤ t *ℤ pos 1) in
      let first : unsigned_abs (f *ℤ pos 1) ≤ 2 ^ 17 = rw (*ℤ_one f) f_small in
      let second : unsigned_abs (neg_ℤ t *ℤ pos 1) ≤ 2 ^ 17 = rw (*ℤ_one (neg_ℤ t)) opposite in
      omega arith

-- ---- three coordinates, as the code puts them into one point

pub three_coordinates : (x y z : ℤ) → IsCoordinate x → IsCoordinate y → IsCoordinate z → AreCoordinates (kept w32 x ∷ kept w32 y ∷ kept w32 z ∷ [])
three_coordinates x y z a b c = All-from_recursion IsCoordinate (kept w32 x ∷ kept w32 y ∷ kept w32 z ∷ []) (coordinate_kept x a, (coordinate_kept y b, (coordinate_kept z c, tt)))
