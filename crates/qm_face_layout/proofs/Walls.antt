-- The walls of a cube are planes in lowest terms.
use Rattle.std.proofs.Common.{◌≡◌, ◌<◌, ℕ, zero, suc, ◌^◌, ℤ, pos, neg_ℤ, refl, subst, arith}
use Rattle.std.specs.Prelude.{unsigned_abs}
use Rattle.std.specs.Int.{◌∣◌}
use Rattle.std.proofs.Math.Nat.{eq-one_of_dvd-one}
use Rattle.std.proofs.lemmas.Int.{ints}
use Rattle.qm_space.specs.Plane.{plane_of}
use Rattle.qm_space.specs.Reduced.{IsReduced}

pub abs_negative : (n : ℕ) → unsigned_abs (neg_ℤ (pos n)) ≡ n
abs_negative zero = refl
abs_negative (suc n) = refl

-- a normal along an axis or against it, and a distance that is not too large
across_x : (n d : ℤ) → unsigned_abs n ≡ 1 → unsigned_abs d < 2 ^ 32 → IsReduced (plane_of n (pos 0) (pos 0) d)
across_x n d one small = record {
  normal = λ e f g. absurd (omega (arith, ints, one, e));
  lowest = λ k x y z w. eq-one_of_dvd-one (subst (λ (m : ℕ). k ∣ m) one x);
  nx_small = omega (arith, one);
  ny_small = omega arith;
  nz_small = omega arith;
  d_small = omega (arith, small);
}

across_y : (n d : ℤ) → unsigned_abs n ≡ 1 → unsigned_abs d < 2 ^ 32 → IsReduced (plane_of (pos 0) n (pos 0) d)
across_y n d one small = record {
  normal = λ e f g. absurd (omega (arith, ints, one, f));
  lowest = λ k x y z w. eq-one_of_dvd-one (subst (λ (m : ℕ). k ∣ m) one y);
  nx_small = omega arith;
  ny_small = omega (arith, one);
  nz_small = omega arith;
  d_small = omega (arith, small);
}

across_z : (n d : ℤ) → unsigned_abs n ≡ 1 → unsigned_abs d < 2 ^ 32 → IsReduced (plane_of (pos 0) (pos 0) n d)
across_z n d one small = record {
  normal = λ e f g. absurd (omega (arith, ints, one, g));
  lowest = λ k x y z w. eq-one_of_dvd-one (subst (λ (m : ℕ). k ∣ m) one z);
  nx_small = omega arith;
  ny_small = omega arith;
  nz_small = omega (arith, one);
  d_small = omega (arith, small);
}

module _ (bound : ℕ) (small : bound < 2 ^ 32) where
  wall_distance : unsigned_abs (neg_ℤ (pos bound)) < 2 ^ 32
  wall_distance = omega (arith, small, abs_negative bound)

  pub low_x : IsReduced (plane_of (pos 1) (pos 0) (pos 0) (neg_ℤ (pos bound)))
  low_x = across_x (pos 1) (neg_ℤ (pos bound)) refl wall_distance

  pub high_x : IsReduced (plane_of (neg_ℤ (pos 1)) (pos 0) (pos 0) (neg_ℤ (pos bound)))
  high_x = across_x (neg_ℤ (pos 1)) (neg_ℤ (pos bound)) refl wall_distance

  pub low_y : IsReduced (plane_of (pos 0) (pos 1) (pos 0) (neg_ℤ (pos bound)))
  low_y = across_y (pos 1) (neg_ℤ (pos bound)) refl wall_distance

  pub high_y : IsReduced (plane_of (pos 0) (neg_ℤ (pos 1)) (pos 0) (neg_ℤ (pos bound)))
  high_y = across_y (neg_ℤ (pos 1)) (neg_ℤ (pos bound)) refl wall_distance

  pub low_z : IsReduced (plane_of (pos 0) (pos 0) (pos 1) (neg_ℤ (pos bound)))
  low_z = across_z (pos 1) (neg_ℤ (pos bound)) refl wall_distance

  pub high_z : IsReduced (plane_of (pos 0) (pos 0) (neg_ℤ (pos 1)) (neg_ℤ (pos bound)))
  high_z = across_z (neg_ℤ (pos 1)) (neg_ℤ (pos bound)) refl wall_distance
