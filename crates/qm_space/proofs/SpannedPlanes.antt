-- The plane that three points with one w span: it holds them, and how large its numbers are.
use Rattle.std.proofs.Common.{◌≡◌, ◌∙◌, ℕ, ◌+◌, ◌*◌, ◌≤◌, ℤ, pos, ◌+ℤ◌, ◌-ℤ◌, ◌*ℤ◌, List, [], ◌∷◌, ap, refl, arith, unsigned_abs}
use Rattle.std.proofs.lemmas.Int.{ints}
use Rattle.std.proofs.Math.Nat.{mul-le-mul_left, mul_left_comm}
use Rattle.qm_space.specs.Bounds.{world_extent, thousandths_bound, whole_normal_bound, outward_normal_bound, spanned_normal_bound, spanned_distance_bound}
use Rattle.qm_space.specs.Point.{Point, whole_point, thousandths_point, AreThousandths, IsWholePoint}
use Rattle.qm_space.specs.Plane.{Plane, value, IsOn}
use Rattle.qm_space.specs.Cube.{IsInClosedCube}
use Rattle.qm_space.specs.Reduced.{HasNormal, HasNormalUpTo}
use Rattle.qm_space.specs.ThreePoints.{outward_plane, in_space, spanned_plane}
use Rattle.qm_space.specs.inner.SpannedSizes.{HasSpannedSizes, IsWithinReach}
use Rattle.qm_numbers.proofs.IntegerProducts.{one_*ℤ, *ℤ_zero}
use Rattle.qm_numbers.proofs.Signs.{zero_beside, abs_product_bound}
use Rattle.qm_numbers.proofs.Ring.{variable, number, ◌⊕◌, ◌⊖◌, ◌⊗◌, solved}
use Rattle.qm_space.proofs.ReducedPlanes.{same_plane}
use Rattle.qm_space.proofs.CoordinateSizes.{coordinate_small, thousandths_small, thousandths_read}
use Rattle.qm_space.proofs.CubeDistances.{times_three, cube_distance}

-- ---- planes over numerators, and in space

pub in_space_one : (h : Plane) → in_space (pos 1) h ≡ h
unfolding in_space
in_space_one h = same_plane (in_space (pos 1) h) h (one_*ℤ h.nx) (one_*ℤ h.ny) (one_*ℤ h.nz) refl

-- that of whole points is the one over their numerators
pub spanned_whole : (p0 p1 p2 : Point) → p1.w ≡ pos 1 → spanned_plane p0 p1 p2 ≡ outward_plane p0 p1 p2
spanned_whole p0 p1 p2 e = ap (λ (w : ℤ). in_space w (outward_plane p0 p1 p2)) e ∙ in_space_one (outward_plane p0 p1 p2)

-- the outward plane is made of the numerators alone
pub outward_of_numerators : (a b c : List ℤ) → outward_plane (thousandths_point a) (thousandths_point b) (thousandths_point c) ≡ outward_plane (whole_point a) (whole_point b) (whole_point c)
unfolding outward_plane
outward_of_numerators a b c = refl

pub in_space_has_normal : (w : ℤ) (h : Plane) → (w ≡ pos 0 → ⊥) → HasNormal h → HasNormal (in_space w h)
unfolding in_space
in_space_has_normal w h some normal = λ x y z. normal (zero_beside w h.nx some x) (zero_beside w h.ny some y) (zero_beside w h.nz some z)

pub normal_in_space : (w : ℤ) (h : Plane) → HasNormal (in_space w h) → HasNormal h
unfolding in_space
normal_in_space w h normal = λ x y z. normal (ap (λ n. w *ℤ n) x ∙ *ℤ_zero w) (ap (λ n. w *ℤ n) y ∙ *ℤ_zero w) (ap (λ n. w *ℤ n) z ∙ *ℤ_zero w)

holds : (w a b c x y z : ℤ) → ((((w *ℤ a) *ℤ x) +ℤ ((w *ℤ b) *ℤ y)) +ℤ ((w *ℤ c) *ℤ z)) -ℤ ((((a *ℤ x) +ℤ (b *ℤ y)) +ℤ (c *ℤ z)) *ℤ w) ≡ pos 0
holds w a b c x y z =
    let v = variable in
    solved (w ∷ a ∷ b ∷ c ∷ x ∷ y ∷ z ∷ [])
    (((v 0 ⊗ v 1) ⊗ v 4 ⊕ (v 0 ⊗ v 2) ⊗ v 5 ⊕ (v 0 ⊗ v 3) ⊗ v 6) ⊖ (v 1 ⊗ v 4 ⊕ v 2 ⊗ v 5 ⊕ v 3 ⊗ v 6) ⊗ v 0) (number (pos 0)) tt

-- the plane holds the second point
pub spanned_holds : (p0 p1 p2 : Point) → IsOn (spanned_plane p0 p1 p2) p1
unfolding value in_space outward_plane
spanned_holds p0 p1 p2 = let out = outward_plane p0 p1 p2 in holds p1.w out.nx out.ny out.nz p1.x p1.y p1.z

pub spanned_within_reach : (p0 p1 p2 : Point) → IsInClosedCube p1 → IsWithinReach (spanned_plane p0 p1 p2)
spanned_within_reach p0 p1 p2 inside = cube_distance (spanned_plane p0 p1 p2) p1 inside (spanned_holds p0 p1 p2)

-- ---- sizes

-- the three differences of three numbers of a range
differences_small : (a b c : ℤ) (m : ℕ) → unsigned_abs a ≤ m → unsigned_abs b ≤ m → unsigned_abs c ≤ m → unsigned_abs (c -ℤ b) + unsigned_abs (a -ℤ c) + unsigned_abs (b -ℤ a) ≤ 4 * m
differences_small a b c m h k l = omega (arith, ints)

abs_of_three : (a b c : ℤ) → unsigned_abs ((a +ℤ b) +ℤ c) ≤ unsigned_abs a + unsigned_abs b + unsigned_abs c
abs_of_three a b c = omega (arith, ints)

-- a coefficient of the normal, of coordinates across two axes
cross_small : (a0 a1 a2 b0 b1 b2 : ℤ) (m : ℕ) → unsigned_abs a0 ≤ m → unsigned_abs a1 ≤ m → unsigned_abs a2 ≤ m → unsigned_abs b0 ≤ m → unsigned_abs b1 ≤ m → unsigned_abs b2 ≤ m →
    unsigned_abs (((a0 -ℤ a1) *ℤ (b2 -ℤ b1)) -ℤ ((b0 -ℤ b1) *ℤ (a2 -ℤ a1))) ≤ 4 * (m * m)
cross_small a0 a1 a2 b0 b1 b2 m h0 h1 h2 k0 k1 k2 =
    let v = variable in
    let e = solved (a0 ∷ a1 ∷ a2 ∷ b0 ∷ b1 ∷ b2 ∷ [])
    ((v 0 ⊖ v 1) ⊗ (v 5 ⊖ v 4) ⊖ (v 3 ⊖ v 4) ⊗ (v 2 ⊖ v 1))
    (v 0 ⊗ (v 5 ⊖ v 4) ⊕ v 1 ⊗ (v 3 ⊖ v 5) ⊕ v 2 ⊗ (v 4 ⊖ v 3)) tt in
    let f = ap unsigned_abs e in
    let s = abs_of_three (a0 *ℤ (b2 -ℤ b1)) (a1 *ℤ (b0 -ℤ b2)) (a2 *ℤ (b1 -ℤ b0)) in
    let p0 = abs_product_bound a0 (b2 -ℤ b1) m (unsigned_abs (b2 -ℤ b1)) h0 (omega arith) in
    let p1 = abs_product_bound a1 (b0 -ℤ b2) m (unsigned_abs (b0 -ℤ b2)) h1 (omega arith) in
    let p2 = abs_product_bound a2 (b1 -ℤ b0) m (unsigned_abs (b1 -ℤ b0)) h2 (omega arith) in
    let t = times_three m (unsigned_abs (b2 -ℤ b1)) (unsigned_abs (b0 -ℤ b2)) (unsigned_abs (b1 -ℤ b0)) in
    let d = mul-le-mul_left m (differences_small b0 b1 b2 m k0 k1 k2) in
    let g = mul_left_comm m 4 m in
    omega arith

-- the numerators are no greater
record HasNumeratorsUpTo (bound : ℕ) (p : Point) : Type 0 where
  pub x : unsigned_abs p.x ≤ bound
  pub y : unsigned_abs p.y ≤ bound
  pub z : unsigned_abs p.z ≤ bound

outward_normal_small : (m : ℕ) (p0 p1 p2 : Point) → HasNumeratorsUpTo m p0 → HasNumeratorsUpTo m p1 → HasNumeratorsUpTo m p2 → HasNormalUpTo (4 * (m * m)) (outward_plane p0 p1 p2)
unfolding outward_plane
outward_normal_small m p0 p1 p2 h0 h1 h2 = record {
  x = cross_small p0.y p1.y p2.y p0.z p1.z p2.z m h0.y h1.y h2.y h0.z h1.z h2.z;
  y = cross_small p0.z p1.z p2.z p0.x p1.x p2.x m h0.z h1.z h2.z h0.x h1.x h2.x;
  z = cross_small p0.x p1.x p2.x p0.y p1.y p2.y m h0.x h1.x h2.x h0.y h1.y h2.y;
}

whole_numerators : (p : Point) → IsWholePoint p → HasNumeratorsUpTo world_extent p
whole_numerators p is = record { x = coordinate_small p.x is.x; y = coordinate_small p.y is.y; z = coordinate_small p.z is.z }

thousandths_numerators : (at : List ℤ) → AreThousandths at → HasNumeratorsUpTo thousandths_bound (thousandths_point at)
thousandths_numerators at are = record { x = thousandths_small _ (thousandths_read at 0 are); y = thousandths_small _ (thousandths_read at 1 are); z = thousandths_small _ (thousandths_read at 2 are) }

-- three whole points of the closed cube
pub whole_normal_small : (p0 p1 p2 : Point) → IsWholePoint p0 → IsWholePoint p1 → IsWholePoint p2 → HasNormalUpTo whole_normal_bound (outward_plane p0 p1 p2)
whole_normal_small p0 p1 p2 h0 h1 h2 = outward_normal_small world_extent p0 p1 p2 (whole_numerators p0 h0) (whole_numerators p1 h1) (whole_numerators p2 h2)

-- three points in thousandths
pub thousandths_normal_small : (a b c : List ℤ) → AreThousandths a → AreThousandths b → AreThousandths c → HasNormalUpTo outward_normal_bound (outward_plane (thousandths_point a) (thousandths_point b) (thousandths_point c))
thousandths_normal_small a b c h k l =
    outward_normal_small thousandths_bound (thousandths_point a) (thousandths_point b) (thousandths_point c) (thousandths_numerators a h) (thousandths_numerators b k) (thousandths_numerators c l)

distance_small : (a b c x y z : ℤ) → unsigned_abs a ≤ outward_normal_bound → unsigned_abs b ≤ outward_normal_bound → unsigned_abs c ≤ outward_normal_bound → unsigned_abs x ≤ thousandths_bound → unsigned_abs y ≤ thousandths_bound → unsigned_abs z ≤ thousandths_bound →
    unsigned_abs (((a *ℤ x) +ℤ (b *ℤ y)) +ℤ (c *ℤ z)) ≤ spanned_distance_bound
distance_small a b c x y z p q r h k l =
    let s = abs_of_three (a *ℤ x) (b *ℤ y) (c *ℤ z) in
    let m = abs_product_bound a x outward_normal_bound thousandths_bound p h in
    let n = abs_product_bound b y outward_normal_bound thousandths_bound q k in
    let o = abs_product_bound c z outward_normal_bound thousandths_bound r l in
    omega arith

pub thousandths_distance_small : (a b c : List ℤ) → AreThousandths a → AreThousandths b → AreThousandths c → unsigned_abs (outward_plane (thousandths_point a) (thousandths_point b) (thousandths_point c)).d ≤ spanned_distance_bound
unfolding outward_plane
thousandths_distance_small a b c h k l =
    let out = outward_plane (thousandths_point a) (thousandths_point b) (thousandths_point c) in let at = thousandths_point b in
    let n = thousandths_normal_small a b c h k l in let p = thousandths_numerators b k in
    distance_small out.nx out.ny out.nz at.x at.y at.z n.x n.y n.z p.x p.y p.z

-- the sizes of the plane over their numerators, and of the plane that they span
pub outward_sizes : (a b c : List ℤ) → AreThousandths a → AreThousandths b → AreThousandths c → HasSpannedSizes (outward_plane (thousandths_point a) (thousandths_point b) (thousandths_point c))
outward_sizes a b c h k l =
    let n = thousandths_normal_small a b c h k l in
    let x = n.x in let y = n.y in let z = n.z in
    record { nx_small = omega arith; ny_small = omega arith; nz_small = omega arith; d_small = thousandths_distance_small a b c h k l }

pub thousandfold : (n : ℤ) → unsigned_abs n ≤ outward_normal_bound → unsigned_abs (pos 1000 *ℤ n) ≤ spanned_normal_bound
thousandfold n small = abs_product_bound (pos 1000) n 1000 outward_normal_bound (omega arith) small

-- a plane over numerators of these sizes, in space
pub in_thousandths_sizes : (h : Plane) → HasNormalUpTo outward_normal_bound h → unsigned_abs h.d ≤ spanned_distance_bound → HasSpannedSizes (in_space (pos 1000) h)
unfolding in_space
in_thousandths_sizes h small d_small = record { nx_small = thousandfold h.nx small.x; ny_small = thousandfold h.ny small.y; nz_small = thousandfold h.nz small.z; d_small = d_small }

pub spanned_sizes : (a b c : List ℤ) → AreThousandths a → AreThousandths b → AreThousandths c → HasSpannedSizes (spanned_plane (thousandths_point a) (thousandths_point b) (thousandths_point c))
spanned_sizes a b c h k l = in_thousandths_sizes (outward_plane (thousandths_point a) (thousandths_point b) (thousandths_point c)) (thousandths_normal_small a b c h k l) (thousandths_distance_small a b c h k l)
