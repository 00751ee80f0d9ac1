-- Vectors as the code keeps them.
use Rattle.std.proofs.Common.{◌≡◌, ◌≤◌, ◌*◌, ◌-◌, ◌^◌, ◌*ℤ◌, ◌-ℤ◌, ◌∙◌, ℕ, ℤ, pos, List, FitsSigned, w32, w64, arith, lit≤, refl, sym, subst, unsigned_abs}
use mir.Syntax.{w128}
use Rattle.std.proofs.lemmas.Int.{to_z-of_z}
use Rattle.qm_space.specs.Bounds.{thousandths_bound, outward_normal_bound, spanned_distance_bound}
use Rattle.qm_space.specs.Point.{Point, whole_point, thousandths_point, IsThousandths, AreThousandths}
use Rattle.qm_space.specs.Plane.{Plane, value}
use Rattle.qm_space.specs.Reduced.{HasNormalUpTo}
use Rattle.qm_space.specs.ThreePoints.{outward_plane, in_space}
use Rattle.qm_space.specs.inner.SpannedSizes.{HasSpannedSizes}
use Rattle.qm_numbers.proofs.Signs.{abs_difference}
use Rattle.qm_space.proofs.CoordinateSizes.{thousandths_small}
use Rattle.qm_space.proofs.SpannedPlanes.{outward_of_numerators, outward_sizes, thousandfold}
use Rattle.qm_geom.specs.Vectors.{normal_vector, step_to, vector_between, cross_vector, dot, HasSmallComponents}
use Rattle.qm_geom.specs.declared.vector.Vector.{Vector}
use Rattle.qm_numbers.proofs.Kept.{kept, small_kept, fits_64, fits_128, answered, product_answered, apart_is}
use Rattle.qm_numbers.proofs.Bits.{kept_32}

-- three numbers as one vector
abbrev pub vector : ℤ → ℤ → ℤ → Vector
vector x y z = record { x = x; y = y; z = z }

pub same_vector : (a b c p q r : ℤ) → a ≡ p → b ≡ q → c ≡ r → vector a b c ≡ vector p q r
same_vector a b c p q r x y z = rw (x, y, z)

pub small_vector : (a b c : ℤ) (n : ℕ) → n ≤ 2 ^ 63 - 1 → unsigned_abs a ≤ n → unsigned_abs b ≤ n → unsigned_abs c ≤ n → HasSmallComponents (vector (kept w64 a) (kept w64 b) (kept w64 c)) n
small_vector a b c n l x y z =
    record { x_small = small_kept a n l x; y_small = small_kept b n l y; z_small = small_kept c n l z }

pub HasSmallComponents-more : (v : Vector) (m n : ℕ) → HasSmallComponents v m → m ≤ n → HasSmallComponents v n
HasSmallComponents-more v m n h l = record {
  x_small = let s = h.x_small in omega arith;
  y_small = let s = h.y_small in omega arith;
  z_small = let s = h.z_small in omega arith;
}

-- the three coordinates of a point that has a weight too
abbrev pub point : ℤ → ℤ → ℤ → ℤ → Point
point x y z w = record { x = x; y = y; z = z; w = w }

pub vector_kept : (x y z : ℤ) → FitsSigned w64 x → FitsSigned w64 y → FitsSigned w64 z → vector (kept w64 x) (kept w64 y) (kept w64 z) ≡ vector x y z
vector_kept x y z f g h = same_vector _ _ _ _ _ _ (to_z-of_z w64 x f) (to_z-of_z w64 y g) (to_z-of_z w64 z h)

-- a plane's value is a dot product with a product taken off
pub value_is : (h : Plane) (p : Point) (r q : ℤ) → r ≡ dot (normal_vector h) (step_to p) → q ≡ h.d *ℤ p.w → r -ℤ q ≡ value h p
unfolding value dot
value_is h p r q e f = rw (e, f) refl

-- as the code computes it at a point of 64 bits
pub value_at_point : (h : Plane) (p : Point) (n : Vector) (x y z w d r q : ℤ) → n ≡ normal_vector h → point x y z w ≡ p → d ≡ h.d → FitsSigned w64 x → FitsSigned w64 y → FitsSigned w64 z → FitsSigned w64 w → FitsSigned w64 d → r ≡ dot n (vector (kept w64 x) (kept w64 y) (kept w64 z)) → q ≡ kept w64 d *ℤ kept w64 w → unsigned_abs r ≤ 3 * 2 ^ 116 → unsigned_abs q ≤ 2 ^ 126 → kept w128 (kept w128 r -ℤ kept w128 q) ≡ value h p
value_at_point h p n x y z w d r q of_h of_p of_d fx fy fz fw fd along times k l =
    apart_is r q (3 * 2 ^ 116) (2 ^ 126) k l (lit≤ tt)
    ∙ value_is h p r q (along ∙ rw (vector_kept x y z fx fy fz, of_h, ← of_p) refl) (product_answered w64 q d w fd fw times ∙ rw (of_d, ← of_p) refl)

-- ---- steps between points, and the outward plane

step_small : (a b : ℤ) → unsigned_abs a ≤ thousandths_bound → unsigned_abs b ≤ thousandths_bound → unsigned_abs (b -ℤ a) ≤ 2 ^ 26
step_small a b h k = let s = abs_difference b a in omega arith

pub difference_answered : (r a b : ℤ) → IsThousandths a → IsThousandths b → r ≡ kept w32 b -ℤ kept w32 a → kept w64 r ≡ b -ℤ a
difference_answered r a b h k e =
    answered w64 (b -ℤ a) r (fits_64 (b -ℤ a) _ (step_small a b (thousandths_small a h) (thousandths_small b k)) (lit≤ tt))
    (e ∙ rw (kept_32 a thousandths_bound (thousandths_small a h) (lit≤ tt), kept_32 b thousandths_bound (thousandths_small b k) (lit≤ tt)) refl)

abbrev pub plane : ℤ → ℤ → ℤ → ℤ → Plane
plane nx ny nz d = record { nx = nx; ny = ny; nz = nz; d = d }

-- the numbers of an unreduced plane fit
pub plane_kept : (nx ny nz d : ℤ) → HasSpannedSizes (plane nx ny nz d) → plane (kept w64 nx) (kept w64 ny) (kept w64 nz) (kept w128 d) ≡ plane nx ny nz d
plane_kept nx ny nz d s =
    rw (to_z-of_z w64 nx (fits_64 nx _ s.nx_small (lit≤ tt)), to_z-of_z w64 ny (fits_64 ny _ s.ny_small (lit≤ tt)), to_z-of_z w64 nz (fits_64 nz _ s.nz_small (lit≤ tt)), to_z-of_z w128 d (fits_128 d _ s.d_small (lit≤ tt)))
    refl

outward_is : (p0 p1 p2 : Point) (n s t o : Vector) (d : ℤ) → s ≡ vector_between p1 p0 → t ≡ vector_between p1 p2 → n ≡ cross_vector s t → o ≡ step_to p1 → d ≡ dot n o → plane n.x n.y n.z d ≡ outward_plane p0 p1 p2
unfolding outward_plane vector_between cross_vector dot
outward_is p0 p1 p2 n s t o d of_s of_t of_n of_o of_d = rw (of_d, of_n, of_s, of_t, of_o) refl

-- what the code's steps s and t, their cross product n, the second point's vector o and the distance d are
pub record AreOutwardParts (p0 p1 p2 : List ℤ) (s t n o : Vector) (d : ℤ) : Type 0 where
  pub first_step : s ≡ vector_between (whole_point p1) (whole_point p0)
  pub second_step : t ≡ vector_between (whole_point p1) (whole_point p2)
  pub normal : n ≡ cross_vector s t
  pub second_point : o ≡ step_to (whole_point p1)
  pub distance : d ≡ dot n o
  pub p0_small : AreThousandths p0
  pub p1_small : AreThousandths p1
  pub p2_small : AreThousandths p2

parts_are : (p0 p1 p2 : List ℤ) (s t n o : Vector) (d : ℤ) → AreOutwardParts p0 p1 p2 s t n o d → plane n.x n.y n.z d ≡ outward_plane (thousandths_point p0) (thousandths_point p1) (thousandths_point p2)
parts_are p0 p1 p2 s t n o d p =
    outward_is (whole_point p0) (whole_point p1) (whole_point p2) n s t o d p.first_step p.second_step p.normal p.second_point p.distance
    ∙ sym (outward_of_numerators p0 p1 p2)

pub outward_kept : (p0 p1 p2 : List ℤ) (s t n o : Vector) (d : ℤ) → AreOutwardParts p0 p1 p2 s t n o d → plane (kept w64 n.x) (kept w64 n.y) (kept w64 n.z) (kept w128 d) ≡ outward_plane (thousandths_point p0) (thousandths_point p1) (thousandths_point p2)
outward_kept p0 p1 p2 s t n o d p =
    plane_kept n.x n.y n.z d (subst HasSpannedSizes (sym (parts_are p0 p1 p2 s t n o d p)) (outward_sizes p0 p1 p2 p.p0_small p.p1_small p.p2_small))
    ∙ parts_are p0 p1 p2 s t n o d p

-- a plane over numerators in thousandths, in space

one_thousandfold : (n : ℤ) → unsigned_abs n ≤ outward_normal_bound → kept w64 (pos 1000 *ℤ kept w64 n) ≡ pos 1000 *ℤ n
one_thousandfold n small =
    rw (to_z-of_z w64 n (fits_64 n _ small (lit≤ tt))) (to_z-of_z w64 (pos 1000 *ℤ n) (fits_64 (pos 1000 *ℤ n) _ (thousandfold n small) (lit≤ tt)))

pub thousandfold_kept : (h : Plane) → HasNormalUpTo outward_normal_bound h → unsigned_abs h.d ≤ spanned_distance_bound → plane (kept w64 (pos 1000 *ℤ kept w64 h.nx)) (kept w64 (pos 1000 *ℤ kept w64 h.ny)) (kept w64 (pos 1000 *ℤ kept w64 h.nz)) (kept w128 h.d) ≡ in_space (pos 1000) h
unfolding in_space
thousandfold_kept h small d_small =
    rw (one_thousandfold h.nx small.x, one_thousandfold h.ny small.y, one_thousandfold h.nz small.z, to_z-of_z w128 h.d (fits_128 h.d _ d_small (lit≤ tt))) refl
