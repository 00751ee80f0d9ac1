-- The coordinates of a fraction, and how they are printed.
use Rattle.std.proofs.Common.{◌≡◌, ◌<◌, ◌≤◌, ℕ, zero, suc, ◌+◌, ◌*◌, ◌/◌, ◌%◌, ℤ, pos, negsuc, Bool, true, false, cond, eqb, List, ◌++◌, ◌∷◌, refl, sym, ap, ◌∙◌, ◌⊎◌, inl, inr, arith}
use Rattle.std.specs.Prelude.{unsigned_abs, int_lt, decimal}
use Rattle.std.proofs.lemmas.Bool.{eqb-true}
use Rattle.std.proofs.lemmas.Nat.{div-add-mod'}
use Rattle.std.proofs.Math.Nat.{div-eq_of_lt-le, div-lt_iff_lt-mul}
use Rattle.qm_numerals.specs.Printed.{last_digits, millionths, printed_fraction, shown_sign, with_six_decimals}
use Rattle.qm_numbers.specs.Sign.{is_negative}
use Rattle.qm_listing.specs.Numbers.{with_sign, coordinate_numeral}
use Rattle.qm_listing.specs.WorldListing.{coordinate_at}

pub negative_test : (z : ℤ) → int_lt z (pos 0) ≡ is_negative z
negative_test (pos n) = grind arith
negative_test (negsuc n) = refl

-- a whole value in millionths
whole_bounds : (n d q : ℕ) → n ≡ q * d → 0 < d → (q * 1000000 * (2 * d) ≤ 2 * n * 1000000 + d) × (2 * n * 1000000 + d < (q * 1000000 + 1) * (2 * d))
whole_bounds n d q is some =
    let m = q * d in
    let left : q * 1000000 * (2 * d) ≡ 2000000 * m = omega arith in
    let right : (q * 1000000 + 1) * (2 * d) ≡ 2000000 * m + 2 * d = omega arith in
    (omega (arith, left, is), omega (arith, right, is, some))

pub whole_millionths : (n d : ℕ) → 0 < d → n % d ≡ 0 → millionths n d ≡ n / d * 1000000
whole_millionths n d some none =
    let q = n / d in
    let is : n ≡ q * d = sym (div-add-mod' n d) ∙ omega (arith, none) in
    let bounds = whole_bounds n d q is some in
    div-eq_of_lt-le (2 * d) bounds.0 bounds.1

-- the nearest millionths of a fraction that is at most so much
most_bounds : (n d most : ℕ) → n ≤ most * d → 0 < d → 2 * n * 1000000 + d < (most * 1000000 + 1) * (2 * d)
most_bounds n d most within some =
    let m = most * d in
    let right : (most * 1000000 + 1) * (2 * d) ≡ 2000000 * m + 2 * d = omega arith in
    omega (arith, right, within, some)

pub most_millionths_of : (n d most : ℕ) → n ≤ most * d → 0 < d → millionths n d ≤ most * 1000000
most_millionths_of n d most within some =
    let less = (div-lt_iff_lt-mul {k = 2 * d} {x = 2 * n * 1000000 + d} {y = most * 1000000 + 1} (omega (arith, some))).1 (most_bounds n d most within some) in
    omega (arith, less)

-- ---- the text of a coordinate

pub own_magnitude : (negative : Bool) (n : ℕ) → unsigned_abs (with_sign negative n) ≡ n
own_magnitude false n = refl
own_magnitude true zero = refl
own_magnitude true (suc n) = refl

-- `-` is shown before the number that has the sign exactly where it is shown before what is shown of it
own_sign_shown : (negative : Bool) (n shown : ℕ) → (n ≡ 0 → shown ≡ 0) → shown_sign (is_negative (with_sign negative n)) shown ≡ shown_sign negative shown
own_sign_shown false n shown none = refl
own_sign_shown true (suc n) shown none = refl
own_sign_shown true zero shown none = ap (λ (m : ℕ). shown_sign false m) (none refl) ∙ sym (ap (λ (m : ℕ). shown_sign true m) (none refl))

true_or_false : (b : Bool) → (b ≡ true) ⊎ (b ≡ false)
true_or_false true = inl refl
true_or_false false = inr refl

-- a coordinate stands as its fraction is printed
pub coordinate_printed : (over under : ℤ) → 0 < unsigned_abs under → coordinate_numeral (coordinate_at over under) ≡ printed_fraction (int_lt over (pos 0)) (unsigned_abs over) (unsigned_abs under)
unfolding coordinate_numeral coordinate_at
coordinate_printed over under some =
    let n = unsigned_abs over in
    let d = unsigned_abs under in
    let negative = is_negative over in
    let m = millionths n d in
    let z = with_sign negative m in
    let test = eqb (n % d) 0 in
    let magnitude = own_magnitude negative m in
    elim (true_or_false test) [
      | inl whole ↦
          let value : m ≡ n / d * 1000000 = whole_millionths n d some (eqb-true (n % d) 0 whole) in
          let shown : m / 1000000 ≡ n / d = omega (arith, value) in
          ap (λ (b : Bool). cond b (shown_sign (is_negative z) (unsigned_abs z) ++ decimal (unsigned_abs z / 1000000)) (with_six_decimals (is_negative z) (unsigned_abs z))) whole
          ∙ ap (λ (k : ℕ). shown_sign (is_negative z) k ++ decimal (k / 1000000)) magnitude
          ∙ ap (λ (text : List ℕ). text ++ decimal (m / 1000000)) (own_sign_shown negative m m (λ e. e) ∙ shown_alike negative m (n / d) (λ e. omega (arith, e, value)) (λ e. omega (arith, e, value)))
          ∙ ap (λ (k : ℕ). shown_sign negative (n / d) ++ decimal k) shown
          ∙ ap (λ (b : Bool). shown_sign b (n / d) ++ decimal (n / d)) (sym (negative_test over))
          ∙ sym (ap (λ (b : Bool). cond b (shown_sign (int_lt over (pos 0)) (n / d) ++ decimal (n / d)) (with_six_decimals (int_lt over (pos 0)) m)) whole)
      | inr parted ↦
          ap (λ (b : Bool). cond b (shown_sign (is_negative z) (unsigned_abs z) ++ decimal (unsigned_abs z / 1000000)) (with_six_decimals (is_negative z) (unsigned_abs z))) parted
          ∙ ap (λ (k : ℕ). with_six_decimals (is_negative z) k) magnitude
          ∙ ap (λ (text : List ℕ). text ++ behind_sign m) (own_sign_shown negative m m (λ e. e))
          ∙ ap (λ (b : Bool). with_six_decimals b m) (sym (negative_test over))
          ∙ sym (ap (λ (b : Bool). cond b (shown_sign (int_lt over (pos 0)) (n / d) ++ decimal (n / d)) (with_six_decimals (int_lt over (pos 0)) m)) parted)
    ]
  where
    shown_alike : (negative : Bool) (a b : ℕ) → (a ≡ 0 → b ≡ 0) → (b ≡ 0 → a ≡ 0) → shown_sign negative a ≡ shown_sign negative b
    shown_alike false a b to from = refl
    shown_alike true zero zero to from = refl
    shown_alike true zero (suc b) to from = absurd (let e = to refl in cc)
    shown_alike true (suc a) zero to from = absurd (let e = from refl in cc)
    shown_alike true (suc a) (suc b) to from = refl

    behind_sign : ℕ → List ℕ
    behind_sign m = decimal (m / 1000000) ++ (46 ∷ last_digits 6 (m % 1000000))
