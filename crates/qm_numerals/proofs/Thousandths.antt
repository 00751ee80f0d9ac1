-- What is printed of thousandths spells them, and is printed of a whole number as its digits.
use Rattle.std.proofs.Common.{◌≡◌, ◌<◌, ◌≤◌, ℕ, suc, ◌+◌, ◌*◌, ◌/◌, ◌%◌, ◌^◌, ◌==◌, if◌then◌else◌, ℤ, pos, negsuc, neg_ℤ, ◌*ℤ◌, ◌<ℤ◌, ◌≤ℤ◌, unsigned_abs, List, [], ◌∷◌, ◌++◌, length, refl, sym, ap, ◌∙◌, inl, inr, arith, append-nil, length-drop, mul-le-mul_right, decimal}
use Rattle.std.specs.Fmt.{signed_decimal}
use Rattle.std.specs.Str.Parse.{AllDigits, digits_value}
use Rattle.std.proofs.lemmas.Bool.{eqb-true, eq-eqb, ne_eqb}
use Rattle.std.proofs.lemmas.Fmt.{decimal_is_IsNumeral}
use Rattle.std.proofs.lemmas.Int.{ints}
use Rattle.std.proofs.Math.IntN.{pos-*ℤ-pos, negsuc-*ℤ-pos, *ℤ_comm}
use Rattle.qm_lists.proofs.Cases.{by_cases_of}
use Rattle.qm_numerals.specs.Number.{Sign, sign_text, signed_by, IsTail, IsUnsigned, all_digits}
use Rattle.qm_numerals.specs.Answer.{limit, IsValue}
use Rattle.qm_numerals.specs.Printed.{last_digits, decimals_of_thousandths, with_point, thousandths_text, signed_thousandths}
use Rattle.qm_numerals.proofs.LastDigits.{last_digits-digits, last_digits-length, last_digits-value}
use Rattle.qm_numerals.proofs.Scaling.{signed_times}
use Rattle.qm_numerals.proofs.Texts.{number_of}
use Rattle.qm_numerals.proofs.Values.{all_digits_split}

-- ---- the decimals

-- digits, at most three, that write so many thousandths behind a point
pub record WriteThousandths (decimals : List ℕ) (part : ℕ) : Type 0 where
  pub digits : AllDigits 10 decimals
  pub few : length decimals ≤ 3
  pub value : digits_value 10 decimals * 1000 ≡ part * 10 ^ length decimals

last_are : (k v part : ℕ) → k ≤ 3 → v < 10 ^ k → v * 1000 ≡ part * 10 ^ k → WriteThousandths (last_digits k v) part
last_are k v part few below is = record {
  digits = last_digits-digits k v;
  few = omega (arith, few, last_digits-length k v);
  value = rw (last_digits-value k v below, last_digits-length k v) is;
}

pub decimals_are : (part : ℕ) → part < 1000 → WriteThousandths (decimals_of_thousandths part) part
decimals_are part below =
    by_cases_of (λ t. WriteThousandths (if t then [] else (if part % 100 == 0 then last_digits 1 (part / 100) else (if part % 10 == 0 then last_digits 2 (part / 10) else last_digits 3 part))) part) (part == 0)
    (λ none. let nothing : part ≡ 0 = eqb-true part 0 none in record { digits = tt; few = omega arith; value = omega (arith, nothing) })
    (λ some. by_cases_of (λ t. WriteThousandths (if t then last_digits 1 (part / 100) else (if part % 10 == 0 then last_digits 2 (part / 10) else last_digits 3 part)) part) (part % 100 == 0)
    (λ one. let tenths : part % 100 ≡ 0 = eqb-true (part % 100) 0 one in last_are 1 (part / 100) part (omega arith) (omega (arith, below)) (omega (arith, tenths)))
    (λ more. by_cases_of (λ t. WriteThousandths (if t then last_digits 2 (part / 10) else last_digits 3 part) part) (part % 10 == 0)
    (λ two. let hundredths : part % 10 ≡ 0 = eqb-true (part % 10) 0 two in last_are 2 (part / 10) part (omega arith) (omega (arith, below)) (omega (arith, hundredths)))
    (λ three. last_are 3 part part (omega arith) below refl)))

pub point_tail : (decimals : List ℕ) → IsTail (with_point decimals) decimals
point_tail [] = inr (refl, refl)
point_tail (digit ∷ digits) = inl refl

-- ---- the number

-- a whole part, and decimals that write thousandths
sum_is : (whole part unit value all n : ℕ) → all ≡ whole * unit + value → value * 1000 ≡ part * unit → n ≡ whole * 1000 + part → all * 1000 ≡ n * unit
sum_is whole part unit value all n e f g = let h : n * unit ≡ (whole * 1000 + part) * unit = ap (λ (x : ℕ). x * unit) g in omega (arith, e, f, h)

-- what is below the limit
sum_small : (all n unit : ℕ) → all * 1000 ≡ n * unit → n ≤ limit * 1000 → all ≤ limit * unit
sum_small all n unit e small = let h : n * unit ≤ limit * 1000 * unit = mul-le-mul_right unit small in omega (arith, e, h)

module _ (n : ℕ) (small : n ≤ limit * 1000) where
  abbrev decimals : List ℕ
  decimals = decimals_of_thousandths (n % 1000)

  abbrev whole : List ℕ
  whole = decimal (n / 1000)

  are : WriteThousandths decimals (n % 1000)
  are = decimals_are (n % 1000) (omega arith)

  pub thousandths_unsigned : IsUnsigned (thousandths_text n) (decimal (n / 1000)) (decimals_of_thousandths (n % 1000))
  unfolding thousandths_text
  thousandths_unsigned =
      let numeral = decimal_is_IsNumeral (n / 1000) (omega (arith, small)) in
      record {
        tail = with_point decimals;
        spelled = refl;
        whole_digits = numeral.0.1;
        ended = point_tail decimals;
        decimal_digits = are.digits;
        some_digit = omega (arith, numeral.0.0);
      }

  all_is : all_digits whole decimals * 1000 ≡ n * 10 ^ length decimals
  all_is =
      let numeral = decimal_is_IsNumeral (n / 1000) (omega (arith, small)) in
      let split : all_digits whole decimals ≡ digits_value 10 whole * 10 ^ length decimals + digits_value 10 decimals = all_digits_split whole decimals in
      let parts : all_digits whole decimals ≡ (n / 1000) * 10 ^ length decimals + digits_value 10 decimals = split ∙ ap (λ (w : ℕ). w * 10 ^ length decimals + digits_value 10 decimals) numeral.1 in
      sum_is (n / 1000) (n % 1000) (10 ^ length decimals) (digits_value 10 decimals) (all_digits whole decimals) n parts are.value (omega arith)

  -- a sign and so many thousandths
  pub thousandths_value : (sign : Sign) → IsValue (sign_text sign ++ thousandths_text n) 3 (record { numerator = signed_by sign n; places = 3 })
  thousandths_value sign = record {
    number = number_of sign whole decimals;
    spelled = record { unsigned = thousandths_text n; signed_text = refl; digits = thousandths_unsigned };
    fine = λ k byte within. absurd (let few = are.few in omega (arith, within, few, length-drop 3 decimals));
    small = sum_small (all_digits whole decimals) n (10 ^ length decimals) all_is small;
    places_kept = refl;
    value = signed_times sign n (10 ^ length decimals) (all_digits whole decimals * 1000) (sym all_is);
  }

-- ---- whole numbers

-- a whole number is printed as its digits
pub whole_text : (n : ℕ) → thousandths_text (1000 * n) ≡ decimal n
unfolding thousandths_text
whole_text n =
    let none : 1000 * n % 1000 ≡ 0 = omega arith in
    let all : 1000 * n / 1000 ≡ n = omega arith in
    (λ i. decimal (all i) ++ with_point (decimals_of_thousandths (none i))) ∙ append-nil (decimal n)

thousand_below : (n : ℕ) → pos 1000 *ℤ negsuc n ≡ negsuc (1000 * n + 999)
thousand_below n =
    let times : suc n * 1000 ≡ suc (1000 * n + 999) = omega arith in
    *ℤ_comm (pos 1000) (negsuc n) ∙ negsuc-*ℤ-pos n 1000 ∙ ap (λ (m : ℕ). neg_ℤ (pos m)) times

pub whole_number_text : (n : ℤ) → signed_thousandths (pos 1000 *ℤ n) ≡ signed_decimal n
unfolding signed_thousandths
whole_number_text (pos n) = ap signed_thousandths (pos-*ℤ-pos 1000 n) ∙ whole_text n
whole_number_text (negsuc n) =
    let times : suc (1000 * n + 999) ≡ 1000 * suc n = omega arith in
    ap signed_thousandths (thousand_below n)
    ∙ ap (λ (m : ℕ). 45 ∷ thousandths_text m) times
    ∙ ap (λ (t : List ℕ). 45 ∷ t) (whole_text (suc n))

-- ---- the sign

pub below_zero : (n : ℤ) → n <ℤ pos 0 → signed_thousandths n ≡ 45 ∷ thousandths_text (unsigned_abs n)
unfolding signed_thousandths
below_zero (pos n) low = absurd (omega (arith, ints))
below_zero (negsuc n) low = refl

pub not_below_zero : (n : ℤ) → pos 0 ≤ℤ n → signed_thousandths n ≡ thousandths_text (unsigned_abs n)
unfolding signed_thousandths
not_below_zero (pos n) high = refl
not_below_zero (negsuc n) high = absurd (omega (arith, ints))

-- ---- the point and what is behind it

pub point_of_none : (n : ℕ) → n ≡ 0 → with_point (decimals_of_thousandths n) ≡ []
point_of_none n none = rw (eq-eqb n 0 none) refl

pub point_of_one : (n : ℕ) → (n ≡ 0 → ⊥) → n % 100 ≡ 0 → with_point (decimals_of_thousandths n) ≡ 46 ∷ (48 + n / 100 % 10) ∷ []
point_of_one n some one = rw (ne_eqb n 0 some, eq-eqb (n % 100) 0 one) refl

pub point_of_two : (n : ℕ) → (n ≡ 0 → ⊥) → (n % 100 ≡ 0 → ⊥) → n % 10 ≡ 0 → with_point (decimals_of_thousandths n) ≡ 46 ∷ (48 + n / 10 / 10 % 10) ∷ (48 + n / 10 % 10) ∷ []
point_of_two n some more two = rw (ne_eqb n 0 some, ne_eqb (n % 100) 0 more, eq-eqb (n % 10) 0 two) refl

pub point_of_three : (n : ℕ) → (n ≡ 0 → ⊥) → (n % 100 ≡ 0 → ⊥) → (n % 10 ≡ 0 → ⊥) → with_point (decimals_of_thousandths n) ≡ 46 ∷ (48 + n / 10 / 10 % 10) ∷ (48 + n / 10 % 10) ∷ (48 + n % 10) ∷ []
point_of_three n some more most = rw (ne_eqb n 0 some, ne_eqb (n % 100) 0 more, ne_eqb (n % 10) 0 most) refl
