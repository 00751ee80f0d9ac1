-- The common factor of a plane's four numbers, found by three divisors one after another.
use Rattle.std.proofs.Common.{◌≡◌, ◌∙◌, ℕ, ◌<◌, ◌≤◌, ◌%◌, ℤ, pos, ap, refl, sym, subst, arith, unsigned_abs, eq-zero-or-pos, ⊎_elim}
use Rattle.std.specs.Int.{◌∣◌}
use Rattle.std.proofs.lemmas.Nat.Gcd.{IsGcd-swap, IsGcd-from_mod, same_from_IsGcd, dvd_trans, le_of_dvd}
use Rattle.std.proofs.Math.Nat.{eq-zero_of_zero-dvd}
use Rattle.qm_numbers.specs.Gcd.{gcd}
use Rattle.qm_numbers.proofs.Signs.{abs_zero, by_zero}
use Rattle.qm_numbers.proofs.Divisors.{gcd_is, gcd_divides_left, gcd_divides_right}
use Rattle.qm_space.specs.Plane.{Plane}
use Rattle.qm_space.specs.Reduced.{HasNormal, HasNormalUpTo}
use Rattle.qm_space.specs.ThreePoints.{common_factor}
use Rattle.qm_space.proofs.ReducedPlanes.{common_factor_divides, common_factor_gcd}

-- a divisor with a remainder
pub gcd_by_rest : (a b : ℕ) → gcd (b % a) a ≡ gcd a b
gcd_by_rest a b =
    same_from_IsGcd a b (gcd (b % a) a) (gcd a b)
    (IsGcd-swap b a (gcd (b % a) a) (IsGcd-from_mod b a (gcd (b % a) a) (IsGcd-swap (b % a) a (gcd (b % a) a) (gcd_is (b % a) a))))
    (gcd_is a b)

-- the common factor of four numbers, taken one after another
pub common_factor_in_turn : (h : Plane) (x y z d two three rest four : ℕ) → two ≡ gcd x y → three ≡ gcd two z → rest ≡ d % three → four ≡ gcd rest three → x ≡ unsigned_abs h.nx → y ≡ unsigned_abs h.ny → z ≡ unsigned_abs h.nz → d ≡ unsigned_abs h.d → four ≡ common_factor h
common_factor_in_turn h x y z d two three rest four e f r g x_is y_is z_is d_is =
    g ∙ ap (λ (n : ℕ). gcd n three) r ∙ gcd_by_rest three d ∙ rw (f, e, x_is, y_is, z_is, d_is) refl ∙ sym (common_factor_gcd h)

-- that of the normal is not 0
pub normal_factor_positive : (h : Plane) (x y z two three : ℕ) → HasNormal h → two ≡ gcd x y → three ≡ gcd two z → x ≡ unsigned_abs h.nx → y ≡ unsigned_abs h.ny → z ≡ unsigned_abs h.nz → 0 < three
normal_factor_positive h x y z two three normal e f x_is y_is z_is = ⊎_elim (λ zero. absurd (normal (gone zero h.nx of_x) (gone zero h.ny of_y) (gone zero h.nz of_z))) (λ some. some) (eq-zero-or-pos three)
  where
    gone : three ≡ 0 → (n : ℤ) → three ∣ unsigned_abs n → n ≡ pos 0
    gone zero n c = abs_zero n (eq-zero_of_zero-dvd (subst (λ (k : ℕ). k ∣ unsigned_abs n) zero c))

    of_two : three ∣ two
    of_two = subst (λ (k : ℕ). k ∣ two) (sym f) (gcd_divides_left two z)

    of_x : three ∣ unsigned_abs h.nx
    of_x = subst (λ (k : ℕ). three ∣ k) x_is (dvd_trans three of_two (subst (λ (k : ℕ). k ∣ x) (sym e) (gcd_divides_left x y)))

    of_y : three ∣ unsigned_abs h.ny
    of_y = subst (λ (k : ℕ). three ∣ k) y_is (dvd_trans three of_two (subst (λ (k : ℕ). k ∣ y) (sym e) (gcd_divides_right x y)))

    of_z : three ∣ unsigned_abs h.nz
    of_z = subst (λ (k : ℕ). three ∣ k) z_is (subst (λ (k : ℕ). k ∣ z) (sym f) (gcd_divides_right two z))

-- the common factor is no greater than the normal's bound
pub common_factor_small : (h : Plane) (bound : ℕ) → HasNormal h → HasNormalUpTo bound h → common_factor h ≤ bound
common_factor_small h bound normal small =
    let c = common_factor_divides h in
    by_zero h.nx (λ x. by_zero h.ny (λ y. by_zero h.nz (λ z. absurd (normal x y z)) (within h.nz c.nz small.z)) (within h.ny c.ny small.y)) (within h.nx c.nx small.x)
  where
    within : (n : ℤ) → common_factor h ∣ unsigned_abs n → unsigned_abs n ≤ bound → (n ≡ pos 0 → ⊥) → common_factor h ≤ bound
    within n c l some =
        let p : 0 < unsigned_abs n = ⊎_elim (λ zero. absurd (some (abs_zero n zero))) (λ is. is) (eq-zero-or-pos (unsigned_abs n)) in
        let d : common_factor h ≤ unsigned_abs n = le_of_dvd p c in
        omega arith
