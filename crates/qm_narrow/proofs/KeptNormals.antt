-- Normals, and their products with coordinates, as the code keeps their numbers.
use Rattle.std.proofs.Common.{◌≡◌, ◌≤◌, ◌∙◌, Bool, ℤ, pos, FitsSigned, w32, w64, ◌+ℤ◌, ◌*ℤ◌, ◌<ℤ◌, ◌≤ℤ◌, cond, arith, lit≤, ap, sym, subst, unsigned_abs, ⊎_elim}
use Rattle.std.specs.Prelude.{int_lt}
use Rattle.std.proofs.lemmas.Int.{ints}
use Rattle.qm_numbers.proofs.Bits.{kept_32, kept_64}
use Rattle.qm_numbers.proofs.Signs.{side_test, abs_product_bound}
use Rattle.qm_numbers.proofs.Kept.{kept, fits_64}
use Rattle.qm_space.specs.Bounds.{world_extent, normal_bound, whole_normal_bound}
use Rattle.qm_space.specs.Point.{Point, IsCoordinate, IsWholePoint}
use Rattle.qm_space.specs.Vector.{normal_of}
use Rattle.qm_space.specs.Cuboid.{least_product}
use Rattle.qm_space.specs.ThreePoints.{outward_plane}
use Rattle.qm_space.proofs.CoordinateSizes.{coordinate_small}
use Rattle.qm_space.proofs.SpannedPlanes.{whole_normal_small}
use Rattle.qm_geom.specs.declared.vector.Vector.{Vector}
use Rattle.qm_geom.specs.Vectors.{direction_of, HasSmallComponents}
use Rattle.qm_narrow.specs.inner.Look.{look_product_bound, look_bound}

-- the normal through three whole points of the cube is small
pub through_small : (n : Vector) (at from to : Point) → IsWholePoint at → IsWholePoint from → IsWholePoint to → direction_of n ≡ normal_of (outward_plane at from to) → HasSmallComponents n whole_normal_bound
through_small n at from to a f t e =
    let s = whole_normal_small at from to a f t in
    record {
      x_small = subst (λ (z : ℤ). unsigned_abs z ≤ whole_normal_bound) (sym (ap (λ (p : Point). p.x) e)) s.x;
      y_small = subst (λ (z : ℤ). unsigned_abs z ≤ whole_normal_bound) (sym (ap (λ (p : Point). p.y) e)) s.y;
      z_small = subst (λ (z : ℤ). unsigned_abs z ≤ whole_normal_bound) (sym (ap (λ (p : Point). p.z) e)) s.z;
    }

-- a plane's own normal is no greater
pub own_small : (n : Vector) → HasSmallComponents n normal_bound → HasSmallComponents n whole_normal_bound
own_small n s = let x = s.x_small in let y = s.y_small in let z = s.z_small in record { x_small = omega arith; y_small = omega arith; z_small = omega arith }

-- ---- a component times a coordinate

pub part_small : (n c : ℤ) → unsigned_abs n ≤ whole_normal_bound → IsCoordinate c → unsigned_abs (n *ℤ c) ≤ look_product_bound
part_small n c h k = abs_product_bound n c whole_normal_bound world_extent h (coordinate_small c k)

module _ (n c f : ℤ) (small : unsigned_abs n ≤ whole_normal_bound) (in_cube : IsCoordinate c) (e : f ≡ kept w32 c) where
  component : kept w64 n ≡ n
  component = kept_64 n whole_normal_bound small (lit≤ tt)

  widened : kept w64 f ≡ c
  widened = ap (λ (z : ℤ). kept w64 z) (e ∙ kept_32 c world_extent (coordinate_small c in_cube) (lit≤ tt)) ∙ kept_64 c world_extent (coordinate_small c in_cube) (lit≤ tt)

  pub times_fits : FitsSigned w64 (kept w64 n *ℤ kept w64 f)
  times_fits = rw (component, widened) (fits_64 (n *ℤ c) look_product_bound (part_small n c small in_cube) (lit≤ tt))

  pub times_is : kept w64 (kept w64 n *ℤ kept w64 f) ≡ n *ℤ c
  times_is = rw (component, widened) (kept_64 (n *ℤ c) look_product_bound (part_small n c small in_cube) (lit≤ tt))

-- ---- sums of three

pub sum_kept : (a b c : ℤ) → unsigned_abs a ≤ look_product_bound → unsigned_abs b ≤ look_product_bound → unsigned_abs c ≤ look_product_bound → kept w64 (kept w64 (kept w64 a +ℤ kept w64 b) +ℤ kept w64 c) ≡ (a +ℤ b) +ℤ c
sum_kept a b c h k l = omega (arith, ints)

pub sum_small : (a b c : ℤ) → unsigned_abs a ≤ look_product_bound → unsigned_abs b ≤ look_product_bound → unsigned_abs c ≤ look_product_bound → unsigned_abs ((a +ℤ b) +ℤ c) ≤ look_bound
sum_small a b c h k l = omega (arith, ints)

-- ---- the least product with a coordinate of a span

module _ (n low high r : ℤ) (small : unsigned_abs n ≤ whole_normal_bound) (low_in : IsCoordinate low) (high_in : IsCoordinate high) where
  n_kept : kept w64 n ≡ n
  n_kept = kept_64 n whole_normal_bound small (lit≤ tt)

  low_kept : kept w32 low ≡ low
  low_kept = kept_32 low world_extent (coordinate_small low low_in) (lit≤ tt)

  high_kept : kept w32 high ≡ high
  high_kept = kept_32 high world_extent (coordinate_small high high_in) (lit≤ tt)

  pub below_zero_is : n <ℤ pos 0 → unsigned_abs r ≤ look_product_bound → r ≡ kept w64 n *ℤ kept w32 high → kept w64 r ≡ least_product n (record { low = low; high = high })
  unfolding least_product
  below_zero_is below size e =
      kept_64 r look_product_bound size (lit≤ tt) ∙ e ∙ (λ i. n_kept i *ℤ high_kept i)
      ∙ ⊎_elim
      (λ t. sym (ap (λ (b : Bool). cond b (n *ℤ high) (n *ℤ low)) t.0))
      (λ t. let other = t.1 in absurd (omega (arith, ints)))
      (side_test n)

  pub not_below_zero_is : pos 0 ≤ℤ n → unsigned_abs r ≤ look_product_bound → r ≡ kept w64 n *ℤ kept w32 low → kept w64 r ≡ least_product n (record { low = low; high = high })
  unfolding least_product
  not_below_zero_is not size e =
      kept_64 r look_product_bound size (lit≤ tt) ∙ e ∙ (λ i. n_kept i *ℤ low_kept i)
      ∙ ⊎_elim
      (λ t. let other = t.1 in absurd (omega (arith, ints)))
      (λ t. sym (ap (λ (b : Bool). cond b (n *ℤ high) (n *ℤ low)) t.0))
      (side_test n)

  pub least_is : r ≡ least_product (kept w64 n) (record { low = kept w32 low; high = kept w32 high }) → r ≡ least_product n (record { low = low; high = high })
  least_is e = e ∙ (λ i. least_product (n_kept i) (record { low = low_kept i; high = high_kept i }))

pub three_are : (a b c r p q s : ℤ) → unsigned_abs r ≤ look_bound → r ≡ (kept w64 a +ℤ kept w64 b) +ℤ kept w64 c → unsigned_abs a ≤ look_product_bound → unsigned_abs b ≤ look_product_bound → unsigned_abs c ≤ look_product_bound → a ≡ p → b ≡ q → c ≡ s → kept w64 r ≡ (p +ℤ q) +ℤ s
three_are a b c r p q s size e h k l x y z =
    kept_64 r look_bound size (lit≤ tt) ∙ e
    ∙ (λ i. (kept_64 a look_product_bound h (lit≤ tt) i +ℤ kept_64 b look_product_bound k (lit≤ tt) i) +ℤ kept_64 c look_product_bound l (lit≤ tt) i)
    ∙ (λ i. (x i +ℤ y i) +ℤ z i)

-- ---- products of a component and one of a plane's normal

pub equal_kept : (a b c d : ℤ) → unsigned_abs a ≤ whole_normal_bound → unsigned_abs b ≤ normal_bound → unsigned_abs c ≤ whole_normal_bound → unsigned_abs d ≤ normal_bound → kept w64 a *ℤ kept w64 b ≡ kept w64 c *ℤ kept w64 d → a *ℤ b ≡ c *ℤ d
equal_kept a b c d h k l m e =
    sym (λ i. kept_64 a whole_normal_bound h (lit≤ tt) i *ℤ kept_64 b normal_bound k (lit≤ tt) i) ∙ e
    ∙ (λ i. kept_64 c whole_normal_bound l (lit≤ tt) i *ℤ kept_64 d normal_bound m (lit≤ tt) i)

-- ---- signs

pub signs_kept : (a b : ℤ) → unsigned_abs a ≤ whole_normal_bound → unsigned_abs b ≤ normal_bound → int_lt (kept w64 a) (pos 0) ≡ int_lt (kept w32 b) (pos 0) → int_lt a (pos 0) ≡ int_lt b (pos 0)
signs_kept a b h k e = sym (ap (λ (z : ℤ). int_lt z (pos 0)) (kept_64 a whole_normal_bound h (lit≤ tt))) ∙ e ∙ ap (λ (z : ℤ). int_lt z (pos 0)) (kept_32 b normal_bound k (lit≤ tt))
