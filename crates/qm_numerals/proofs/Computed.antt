-- The computed answer is the answer.
use Rattle.std.proofs.Common.{◌≡◌, ◌<◌, ◌≤◌, ℕ, suc, ◌+◌, ◌*◌, ◌^◌, min, Bool, true, false, if◌then◌else◌, ◌==◌, nat_lt, List, [], ◌∷◌, length, take, drop, get_or, refl, sym, ◌∙◌, ap, subst, inl, inr, arith, length-take, mul-le-mul_right, Ok, Err}
use Rattle.std.specs.Char.{is_ascii_digit, digit_value}
use Rattle.std.specs.List.{list_all, prefix_len, All}
use Rattle.std.specs.Str.Parse.{digits_value, AllDigits}
use Rattle.std.proofs.lemmas.Bool.{eqb-true, eqb-false, ltb-true, ltb-false}
use Rattle.std.proofs.lemmas.List.Sums.{prefix_len-le-length, prefix_len_stops, AllPass-from_list_all}
use Rattle.qm_lists.proofs.Cases.{by_cases_of}
use Rattle.qm_numerals.specs.declared.fraction.NumberFault.TheVariants.{Form, TooFine, TooLarge}
use Rattle.qm_numerals.specs.Answer.{IsAnswer, limit}
use Rattle.qm_numerals.specs.Number.{IsTail, missing, plus, minus}
use Rattle.qm_numerals.specs.inner.Parts.{IsSignSplit, IsWholePart, IsDecimalPart}
use Rattle.qm_numerals.specs.Computed.{fraction_of, answer_of_magnitude, answer_of_digits, answer_of_parts, answer_of_tail, unsigned_at, read_at, in_units}
use Rattle.qm_numerals.proofs.ByteTests.{digits_from_test, test_from_digits, other_from_test}
use Rattle.qm_numerals.proofs.Scaling.{order}
use Rattle.qm_numerals.proofs.Values.{power_positive}
use Rattle.qm_numerals.proofs.Reading.{no_tail, no_digits, decimal_fault, within_limit, above_limit}
use Rattle.qm_numerals.proofs.Uniqueness.{signed_fault, signed_value}

-- ---- the digits that a text begins with

-- the count of digits ahead, and that they are digits, by the first byte
digits_by_test : (c : ℕ) (text : List ℕ) (test : Bool) → is_ascii_digit c ≡ test → list_all is_ascii_digit (take (prefix_len is_ascii_digit text) text) ≡ true → list_all is_ascii_digit (take (prefix_len is_ascii_digit (c ∷ text)) (c ∷ text)) ≡ true
digits_by_test c text true e rest =
    let size : prefix_len is_ascii_digit (c ∷ text) ≡ suc (prefix_len is_ascii_digit text) = rw e (omega arith) in
    rw (size, e) rest
digits_by_test c text false e rest = rw e refl

digits_ahead : (text : List ℕ) → list_all is_ascii_digit (take (prefix_len is_ascii_digit text) text) ≡ true
digits_ahead [] = refl
digits_ahead (c ∷ text) = digits_by_test c text (is_ascii_digit c) refl (digits_ahead text)

-- a byte that is no digit has no digit's value
no_digit : (c : ℕ) → is_ascii_digit c ≡ false → 10 ≤ digit_value c
no_digit c e = elim (order 10 (digit_value c)) [
  | inl high ↦ high
  | inr low ↦
      let digits : AllDigits 10 (c ∷ []) = (low, tt) in
      let test : list_all is_ascii_digit (c ∷ []) ≡ true = test_from_digits (c ∷ []) digits in
      let none : list_all is_ascii_digit (c ∷ []) ≡ false = rw e refl in
      cc
]

whole_of : (text : List ℕ) → IsWholePart text (min (limit + 1) (digits_value 10 (take (prefix_len is_ascii_digit text) text))) (prefix_len is_ascii_digit text)
whole_of text = record {
  within = prefix_len-le-length is_ascii_digit text;
  digits = digits_from_test (take (prefix_len is_ascii_digit text) text) (digits_ahead text);
  ends = λ inside. no_digit (get_or text (prefix_len is_ascii_digit text) 0) (prefix_len_stops is_ascii_digit text 0 inside);
  capped = refl;
}

-- ---- the magnitude

zeros_from_test : (ds : List ℕ) → list_all (λ byte. byte == 48) ds ≡ true → All (λ byte. byte ≡ 48) ds
zeros_from_test ds e = λ k byte at. eqb-true (get_or ds k byte) 48 (AllPass-from_list_all (λ byte. byte == 48) ds e k byte at)

-- a whole part that is kept at one above the limit is compared with the limit as it was
kept_small : (top whole kept part unit : ℕ) → kept ≡ min (top + 1) whole → whole * unit + part ≤ top * unit → 0 < unit → kept ≡ whole
kept_small top whole kept part unit e small positive = elim (order whole top) [
  | inl under ↦ omega arith
  | inr over ↦ absurd (let more : (top + 1) * unit ≤ whole * unit = mul-le-mul_right unit (let h : top + 1 ≤ whole = omega arith in h) in omega arith)
]

kept_large : (top whole kept part unit : ℕ) → kept ≡ min (top + 1) whole → top * unit < whole * unit + part → 0 < unit → top * unit < kept * unit + part
kept_large top whole kept part unit e large positive = elim (order whole top) [
  | inl under ↦ (let same : kept ≡ whole = omega arith in rw same large)
  | inr over ↦ (let same : kept ≡ top + 1 = omega arith in rw same (omega arith))
]

-- a text with its sign, its whole digits and its decimals
record IsParted (text : List ℕ) (negative : Bool) (unsigned : List ℕ) (value count : ℕ) (decimals : List ℕ) : Type 0 where
  split : IsSignSplit text negative unsigned
  whole : IsWholePart unsigned value count
  tail : IsTail (drop count unsigned) decimals

magnitude_answers : (text : List ℕ) (negative : Bool) (u : List ℕ) (v n p : ℕ) (d : List ℕ) → IsParted text negative u v n d → (n + length d ≡ 0 → ⊥) → IsDecimalPart d p (in_units d p) → IsAnswer text p (answer_of_magnitude negative p (digits_value 10 (take n u) * 10 ^ p + in_units d p))
magnitude_answers text negative u v n p d h some part =
    let whole = digits_value 10 (take n u) in
    let magnitude = whole * 10 ^ p + in_units d p in
    by_cases_of (λ t. IsAnswer text p (if t then Err TooLarge else Ok (fraction_of negative p magnitude))) (nat_lt (limit * 10 ^ p) magnitude)
    (λ test. signed_fault TooLarge text negative u p h.split
    (above_limit u v n p (10 ^ p) (in_units d p) d h.whole h.tail some part refl
    (kept_large limit whole v (in_units d p) (10 ^ p) h.whole.capped (ltb-true (limit * 10 ^ p) magnitude test) (power_positive p))))
    (λ test.
    let small : magnitude ≤ limit * 10 ^ p = ltb-false (limit * 10 ^ p) magnitude test in
    let same : v ≡ whole = kept_small limit whole v (in_units d p) (10 ^ p) h.whole.capped small (power_positive p) in
    let kept : v * 10 ^ p + in_units d p ≡ magnitude = ap (λ (w : ℕ). w * 10 ^ p + in_units d p) same in
    signed_value text negative u p (v * 10 ^ p + in_units d p) (fraction_of negative p magnitude) h.split
    (within_limit u v n p (10 ^ p) (in_units d p) d h.whole h.tail some part refl (subst (λ (m : ℕ). m ≤ limit * 10 ^ p) (sym kept) small))
    (ap (λ (m : ℕ). (fraction_of negative p m).numerator) (sym kept))
    refl)

digits_answer : (text : List ℕ) (negative : Bool) (u : List ℕ) (v n p : ℕ) (d : List ℕ) → IsParted text negative u v n d → (n + length d ≡ 0 → ⊥) → AllDigits 10 d → IsAnswer text p (answer_of_digits negative p (take n u) d)
digits_answer text negative u v n p d h some digits =
    by_cases_of (λ t. IsAnswer text p (if t then answer_of_magnitude negative p (digits_value 10 (take n u) * 10 ^ p + in_units d p) else Err TooFine)) (list_all (λ byte. byte == 48) (drop p d))
    (λ test. magnitude_answers text negative u v n p d h some (record { digits = digits; fine = zeros_from_test (drop p d) test; value_is = refl }))
    (λ test. signed_fault TooFine text negative u p h.split
    (decimal_fault TooFine u v n p d h.whole h.tail some (record { digits = digits; too_fine = other_from_test (drop p d) test })))

parts_answer : (text : List ℕ) (negative : Bool) (u : List ℕ) (v n p : ℕ) (d : List ℕ) → IsParted text negative u v n d → IsAnswer text p (answer_of_parts negative p (take n u) d)
unfolding answer_of_parts
parts_answer text negative u v n p d h =
    let within : n ≤ length u = h.whole.within in
    let size : length (take n u) ≡ n = omega (arith, length-take n u) in
    by_cases_of (λ t. IsAnswer text p (if t then Err Form else (if list_all is_ascii_digit d then answer_of_digits negative p (take n u) d else Err Form))) (length (take n u) + length d == 0)
    (λ test.
    let none : length (take n u) + length d ≡ 0 = eqb-true (length (take n u) + length d) 0 test in
    signed_fault Form text negative u p h.split (no_digits u v n d h.whole h.tail (omega arith)))
    (λ test.
    let some : n + length d ≡ 0 → ⊥ = λ none. eqb-false (length (take n u) + length d) 0 test (omega arith) in
    by_cases_of (λ t. IsAnswer text p (if t then answer_of_digits negative p (take n u) d else Err Form)) (list_all is_ascii_digit d)
    (λ all. digits_answer text negative u v n p d h some (digits_from_test d all))
    (λ all. signed_fault Form text negative u p h.split
    (decimal_fault Form u v n p d h.whole h.tail some (λ digits. let yes = test_from_digits d digits in cc))))

-- the answer behind the whole digits
tail_answer : (text : List ℕ) (negative : Bool) (u : List ℕ) (v n p : ℕ) → IsSignSplit text negative u → IsWholePart u v n → (tail : List ℕ) → drop n u ≡ tail → IsAnswer text p (answer_of_tail negative p (take n u) tail)
tail_answer text negative u v n p split whole [] e =
    parts_answer text negative u v n p [] (record { split = split; whole = whole; tail = inr (e, refl) })
tail_answer text negative u v n p split whole (byte ∷ bytes) e =
    by_cases_of (λ t. IsAnswer text p (if t then answer_of_parts negative p (take n u) bytes else Err Form)) (byte == 46)
    (λ test.
    let point : byte ≡ 46 = eqb-true byte 46 test in
    parts_answer text negative u v n p bytes (record { split = split; whole = whole; tail = inl (e ∙ ap (λ (b : ℕ). b ∷ bytes) point) }))
    (λ test. signed_fault Form text negative u p split
    (no_tail u v n whole (λ d h. elim h [
      | inl point ↦ eqb-false byte 46 test (cc)
      | inr nothing ↦ (let h : byte ∷ bytes ≡ [] = sym e ∙ nothing.0 in cc)
    ])))

unsigned_answer : (text : List ℕ) (negative : Bool) (u : List ℕ) (p : ℕ) → IsSignSplit text negative u → IsAnswer text p (unsigned_at negative p u)
unfolding unsigned_at
unsigned_answer text negative u p split =
    let n = prefix_len is_ascii_digit u in
    tail_answer text negative u (min (limit + 1) (digits_value 10 (take n u))) n p split (whole_of u) (drop n u) refl

-- what is computed is the answer
pub read_at_answers : (text : List ℕ) (places : ℕ) → IsAnswer text places (read_at text places)
unfolding read_at
read_at_answers [] p =
    unsigned_answer [] false [] p (record { sign = missing; spelled = refl; negative = refl; no_more = λ _. (λ e. omega arith, λ e. omega arith) })
read_at_answers (byte ∷ bytes) p =
    by_cases_of (λ t. IsAnswer (byte ∷ bytes) p (if t then unsigned_at true p bytes else (if byte == 43 then unsigned_at false p bytes else unsigned_at false p (byte ∷ bytes)))) (byte == 45)
    (λ test. unsigned_answer (byte ∷ bytes) true bytes p (record {
      sign = minus;
      spelled = ap (λ (b : ℕ). b ∷ bytes) (eqb-true byte 45 test);
      negative = refl;
      no_more = λ e. cc;
    }))
    (λ not_minus. by_cases_of (λ t. IsAnswer (byte ∷ bytes) p (if t then unsigned_at false p bytes else unsigned_at false p (byte ∷ bytes))) (byte == 43)
    (λ test. unsigned_answer (byte ∷ bytes) false bytes p (record {
      sign = plus;
      spelled = ap (λ (b : ℕ). b ∷ bytes) (eqb-true byte 43 test);
      negative = refl;
      no_more = λ e. cc;
    }))
    (λ not_plus. unsigned_answer (byte ∷ bytes) false (byte ∷ bytes) p (record {
      sign = missing;
      spelled = refl;
      negative = refl;
      no_more = λ _. (eqb-false byte 43 not_plus, eqb-false byte 45 not_minus);
    })))
