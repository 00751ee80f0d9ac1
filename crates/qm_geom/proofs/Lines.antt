-- The line in which two planes meet, as the code computes it.
use Rattle.std.proofs.Common.{◌≡◌, ◌≤◌, ◌^◌, ◌∙◌, ℤ, ◌-ℤ◌, ◌*ℤ◌, to_z, of_z, w32, w64, ap₂, sym, subst, lit≤, unsigned_abs}
use mir.Syntax.{w128}
use Rattle.qm_numbers.proofs.Bits.{kept_32, kept_64, kept_128}
use Rattle.qm_space.specs.Bounds.{normal_bound, distance_bound}
use Rattle.qm_space.specs.Plane.{Plane}
use Rattle.qm_space.specs.Reduced.{IsReduced}
use Rattle.qm_space.specs.CommonLine.{common_line, HasLineSizes}
use Rattle.qm_geom.specs.declared.vector.Vector.{Vector}
use Rattle.qm_geom.specs.Vectors.{normal_vector, cross_vector, HasSmallComponents}

-- ---- sizes

pub component_small : (z : ℤ) → unsigned_abs z ≤ normal_bound → unsigned_abs (to_z w32 (of_z w32 z)) ≤ normal_bound
component_small z h = subst (λ (n : ℤ). unsigned_abs n ≤ normal_bound) (sym (kept_32 z normal_bound h (lit≤ tt))) h

pub distance_small : (z : ℤ) → unsigned_abs z ≤ distance_bound → unsigned_abs (to_z w64 (of_z w64 z)) ≤ distance_bound
distance_small z h = subst (λ (n : ℤ). unsigned_abs n ≤ distance_bound) (sym (kept_64 z distance_bound h (lit≤ tt))) h

moment_small : (z : ℤ) → unsigned_abs z ≤ 2 ^ 71 → unsigned_abs (to_z w128 (of_z w128 z)) ≤ 2 ^ 71
moment_small z h = subst (λ (n : ℤ). unsigned_abs n ≤ 2 ^ 71) (sym (kept_128 z (2 ^ 71) h (lit≤ tt))) h

pub line_sizes : (along : Vector) (x y z : ℤ) → HasSmallComponents along (2 ^ 53) → unsigned_abs x ≤ 2 ^ 71 → unsigned_abs y ≤ 2 ^ 71 → unsigned_abs z ≤ 2 ^ 71 →
    HasLineSizes (record { along_x = along.x; along_y = along.y; along_z = along.z; moment_x = to_z w128 (of_z w128 x); moment_y = to_z w128 (of_z w128 y); moment_z = to_z w128 (of_z w128 z) })
line_sizes along x y z within hx hy hz = record {
  along_x = within.x_small;
  along_y = within.y_small;
  along_z = within.z_small;
  moment_x = moment_small x hx;
  moment_y = moment_small y hy;
  moment_z = moment_small z hz;
}

-- ---- the line

-- one number of the moment
moment_kept : (p m d n e : ℤ) → unsigned_abs m ≤ normal_bound → unsigned_abs d ≤ distance_bound → unsigned_abs n ≤ normal_bound → unsigned_abs e ≤ distance_bound → unsigned_abs p ≤ 2 ^ 71 →
    p ≡ (to_z w32 (of_z w32 m) *ℤ to_z w64 (of_z w64 e)) -ℤ (to_z w64 (of_z w64 d) *ℤ to_z w32 (of_z w32 n)) → to_z w128 (of_z w128 p) ≡ (m *ℤ e) -ℤ (d *ℤ n)
moment_kept p m d n e hm hd hn he hp f =
    kept_128 p (2 ^ 71) hp (lit≤ tt) ∙ f
    ∙ (λ i. (kept_32 m normal_bound hm (lit≤ tt) i *ℤ kept_64 e distance_bound he (lit≤ tt) i) -ℤ (kept_64 d distance_bound hd (lit≤ tt) i *ℤ kept_32 n normal_bound hn (lit≤ tt) i))

module _ (a b a' b' : Plane) (n m along : Vector) (x y z : ℤ) (same_a : a' ≡ a) (same_b : b' ≡ b) (r : IsReduced a') (s : IsReduced b') where
  of_own : n ≡ normal_vector a → m ≡ normal_vector b → along ≡ cross_vector n m → along ≡ cross_vector (normal_vector a) (normal_vector b)
  of_own f g e = e ∙ ap₂ cross_vector f g

  pub line_of : n ≡ normal_vector a → m ≡ normal_vector b → along ≡ cross_vector n m → unsigned_abs x ≤ 2 ^ 71 → unsigned_abs y ≤ 2 ^ 71 → unsigned_abs z ≤ 2 ^ 71 →
      x ≡ (to_z w32 (of_z w32 a'.nx) *ℤ to_z w64 (of_z w64 b'.d)) -ℤ (to_z w64 (of_z w64 a'.d) *ℤ to_z w32 (of_z w32 b'.nx)) →
      y ≡ (to_z w32 (of_z w32 a'.ny) *ℤ to_z w64 (of_z w64 b'.d)) -ℤ (to_z w64 (of_z w64 a'.d) *ℤ to_z w32 (of_z w32 b'.ny)) →
      z ≡ (to_z w32 (of_z w32 a'.nz) *ℤ to_z w64 (of_z w64 b'.d)) -ℤ (to_z w64 (of_z w64 a'.d) *ℤ to_z w32 (of_z w32 b'.nz)) →
      record { along_x = along.x; along_y = along.y; along_z = along.z; moment_x = to_z w128 (of_z w128 x); moment_y = to_z w128 (of_z w128 y); moment_z = to_z w128 (of_z w128 z) } ≡ common_line a b
  unfolding common_line cross_vector
  line_of f g e hx hy hz ex ey ez = λ i. record {
    along_x = (of_own f g e i).x;
    along_y = (of_own f g e i).y;
    along_z = (of_own f g e i).z;
    moment_x = (moment_kept x a'.nx a'.d b'.nx b'.d r.nx_small r.d_small s.nx_small s.d_small hx ex ∙ (λ j. ((same_a j).nx *ℤ (same_b j).d) -ℤ ((same_a j).d *ℤ (same_b j).nx))) i;
    moment_y = (moment_kept y a'.ny a'.d b'.ny b'.d r.ny_small r.d_small s.ny_small s.d_small hy ey ∙ (λ j. ((same_a j).ny *ℤ (same_b j).d) -ℤ ((same_a j).d *ℤ (same_b j).ny))) i;
    moment_z = (moment_kept z a'.nz a'.d b'.nz b'.d r.nz_small r.d_small s.nz_small s.d_small hz ez ∙ (λ j. ((same_a j).nz *ℤ (same_b j).d) -ℤ ((same_a j).d *ℤ (same_b j).nz))) i;
  }
