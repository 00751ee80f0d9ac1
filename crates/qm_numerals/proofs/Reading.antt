-- What each part of a text answers gives the answer of the whole.
use Rattle.std.proofs.Common.{◌≡◌, ◌<◌, ◌≤◌, ◌-◌, ◌*◌, ◌^◌, ◌+◌, min, ℕ, List, ◌∷◌, length, take, drop, get_or, sym, ◌∙◌, ap, subst, arith, Err, Option, None, Result, ok_or}
use Rattle.std.specs.Char.{digit_value}
use Rattle.std.specs.List.{All, Any}
use Rattle.std.specs.Str.Parse.{AllDigits, digits_value}
use Rattle.std.proofs.lemmas.List.{take_min, drop_min, take_rest, take-append-drop, length-take, length-drop, get_or-drop}
use Rattle.qm_numerals.specs.declared.fraction.NumberFault.{NumberFault}
use Rattle.qm_numerals.specs.declared.fraction.NumberFault.TheVariants.{Form, TooFine, TooLarge}
use Rattle.qm_numerals.specs.Answer.{limit}
use Rattle.qm_numerals.specs.Number.{IsTail, IsUnsigned, all_digits}
use Rattle.qm_numerals.specs.inner.Parts.{IsZerosAnswer, IsDecimalAnswer, IsDecimalPart, IsWholePart, IsMagnitudeAnswer, IsMagnitude, IsTooLargeUnsigned}
use Rattle.qm_numerals.proofs.Texts.{NoDigitAhead, last_digits, joined_digits, zeros_digits, same_digits, no_digit_tail, same_decimals}
use Rattle.qm_numerals.proofs.Values.{all_digits_split, fine_units, power_positive}
use Rattle.qm_numerals.proofs.Scaling.{IsScaled, scaled_value, scaled_small, scaled_large}

min_turned : (n l p : ℕ) → n ≡ min l p → n ≡ min p l
min_turned n l p e = omega arith

same_kept : (n p : ℕ) (text : List ℕ) → n ≡ min (length text) p → take n text ≡ take p text
same_kept n p text e = ap (λ (m : ℕ). take m text) (min_turned n (length text) p e) ∙ take_min p text

same_past : (n p : ℕ) (text : List ℕ) → n ≡ min (length text) p → drop n text ≡ drop p text
same_past n p text e = ap (λ (m : ℕ). drop m text) (min_turned n (length text) p e) ∙ drop_min p text

-- a fault past the kept decimals is one of all decimals
pub past_fault : (fault : NumberFault) (text : List ℕ) (n p : ℕ) → n ≡ min (length text) p → AllDigits 10 (take n text) → IsZerosAnswer (drop n text) (Err fault) → IsDecimalAnswer text p (Err fault)
past_fault Form text n p e h z = λ all. z (last_digits n text all)
past_fault TooFine text n p e h z = record {
  digits = joined_digits n text h z.0;
  too_fine = subst (λ (t : List ℕ). Any (λ byte. byte ≡ 48 → ⊥) t) (same_past n p text e) z.1;
}
past_fault TooLarge text n p e h z = absurd z

-- the same of what `&text[n..]` is
pub past_fault_cut : (fault : NumberFault) (text : List ℕ) (n p : ℕ) → n ≡ min (length text) p → AllDigits 10 (take n text) → IsZerosAnswer (take (length text - n) (drop n text)) (Err fault) → IsDecimalAnswer text p (Err fault)
past_fault_cut fault text n p e h z = past_fault fault text n p e h (subst (λ (t : List ℕ). IsZerosAnswer t (Err fault)) (take_rest text n) z)

-- the fault that stands for no value
pub missing_fault : {A : Type 0} (value : Option A) (fault : NumberFault) → value ≡ None → ◌≡◌ {A = Result A NumberFault} (Err fault) (ok_or value Form) → fault ≡ Form
missing_fault {A} value fault none e = let h : ◌≡◌ {A = Result A NumberFault} (Err fault) (Err Form) = e ∙ ap (λ (o : Option A). ok_or o Form) none in cc

-- the kept decimals, where there are only zeros past them
pub kept_decimals : (text : List ℕ) (n p value unit : ℕ) → n ≡ min (length text) p → AllDigits 10 (take n text) → value ≡ digits_value 10 (take n text) → All (λ byte. byte ≡ 48) (drop n text) → unit ≡ 10 ^ (p - n) → IsDecimalPart text p (value * unit)
kept_decimals text n p value unit e h v z u =
    let kept : value ≡ digits_value 10 (take p text) = v ∙ ap (digits_value 10) (same_kept n p text e) in
    let exponent : p - n ≡ p - length text = omega arith in
    let scale : unit ≡ 10 ^ (p - length text) = u ∙ ap (λ (m : ℕ). 10 ^ m) exponent in
    record {
      digits = joined_digits n text h (zeros_digits (drop n text) z);
      fine = subst (λ (t : List ℕ). All (λ byte. byte ≡ 48) t) (same_past n p text e) z;
      value_is = ap (λ (m : ℕ). m * unit) kept ∙ ap (λ (m : ℕ). digits_value 10 (take p text) * m) scale;
    }

-- ---- whole digits and decimals together

-- no digit stands behind the whole digits
no_digit_rest : (text : List ℕ) (v n : ℕ) → IsWholePart text v n → NoDigitAhead (drop n text)
no_digit_rest text v n w byte bytes e digit =
    let size : length (drop n text) ≡ length (byte ∷ bytes) = ap length e in
    let inside : n < length text = omega (arith, length-drop n text) in
    let at : get_or (drop n text) 0 0 ≡ byte = ap (λ (t : List ℕ). get_or t 0 0) e in
    let same : get_or text n 0 ≡ byte = sym (get_or-drop n text 0 0 ∙ ap (λ (m : ℕ). get_or text m 0) (let z : n + 0 ≡ n = omega arith in z)) ∙ at in
    let small : digit_value (get_or text n 0) < 10 = subst (λ (b : ℕ). digit_value b < 10) (sym same) digit in
    let large = w.ends inside in
    omega arith

-- the text cut behind its whole digits is read in one way only
one_reading : (text : List ℕ) (v n : ℕ) (w e : List ℕ) → IsWholePart text v n → (u : IsUnsigned text w e) → (take n text ≡ w) × (drop n text ≡ u.tail)
one_reading text v n w e part u =
    same_digits (take n text) w (drop n text) u.tail part.digits u.whole_digits (no_digit_rest text v n part) (no_digit_tail u.tail e u.ended) (take-append-drop n text ∙ u.spelled)

-- nothing that is a tail stands behind the whole digits
pub no_tail : (text : List ℕ) (v n : ℕ) → IsWholePart text v n → ((d : List ℕ) → IsTail (drop n text) d → ⊥) → (w e : List ℕ) → IsUnsigned text w e → ⊥
no_tail text v n part none w e u =
    let both = one_reading text v n w e part u in
    let tails : drop n text ≡ u.tail = both.1 in
    none e (subst (λ (t : List ℕ). IsTail t e) (sym tails) u.ended)

-- what `&text[n..]` is, is what stands behind n bytes
pub tail_cut : (text : List ℕ) (n : ℕ) (d : List ℕ) → IsTail (take (length text - n) (drop n text)) d → IsTail (drop n text) d
tail_cut text n d h = subst (λ (t : List ℕ). IsTail t d) (take_rest text n) h

pub no_tail_cut : (text : List ℕ) (v n : ℕ) → IsWholePart text v n → ((d : List ℕ) → IsTail (take (length text - n) (drop n text)) d → ⊥) → (w e : List ℕ) → IsUnsigned text w e → ⊥
no_tail_cut text v n part none = no_tail text v n part (λ d h. none d (subst (λ (t : List ℕ). IsTail t d) (sym (take_rest text n)) h))

-- the decimals behind the whole digits are those of every reading
same_decimal_part : (text : List ℕ) (v n : ℕ) (d w e : List ℕ) → IsWholePart text v n → IsTail (drop n text) d → (u : IsUnsigned text w e) → e ≡ d
same_decimal_part text v n d w e part tail u =
    let both = one_reading text v n w e part u in
    let tails : drop n text ≡ u.tail = both.1 in
    same_decimals u.tail e d u.ended (subst (λ (t : List ℕ). IsTail t d) tails tail)

-- no digit at all
pub no_digits : (text : List ℕ) (v n : ℕ) (d : List ℕ) → IsWholePart text v n → IsTail (drop n text) d → n + length d ≡ 0 → (w e : List ℕ) → IsUnsigned text w e → ⊥
no_digits text v n d part tail none w e u =
    let both = one_reading text v n w e part u in
    let whole : length (take n text) ≡ length w = ap length both.0 in
    let decimals : length e ≡ length d = ap length (same_decimal_part text v n d w e part tail u) in
    let some = u.some_digit in
    absurd (omega (arith, length-take n text))

unsigned_of : (text : List ℕ) (v n : ℕ) (d : List ℕ) → IsWholePart text v n → IsTail (drop n text) d → AllDigits 10 d → (n + length d ≡ 0 → ⊥) → IsUnsigned text (take n text) d
unsigned_of text v n d part tail digits some = record {
  tail = drop n text;
  spelled = sym (take-append-drop n text);
  whole_digits = part.digits;
  ended = tail;
  decimal_digits = digits;
  some_digit = (let within = part.within in omega (arith, length-take n text));
}

-- a fault of the decimals is one of the number
pub decimal_fault : (fault : NumberFault) (text : List ℕ) (v n p : ℕ) (d : List ℕ) → IsWholePart text v n → IsTail (drop n text) d → (n + length d ≡ 0 → ⊥) → IsDecimalAnswer d p (Err fault) → IsMagnitudeAnswer text p (Err fault)
decimal_fault Form text v n p d part tail some h = λ w e u. h (subst (λ (t : List ℕ). AllDigits 10 t) (same_decimal_part text v n d w e part tail u) u.decimal_digits)
decimal_fault TooFine text v n p d part tail some h = record {
  whole = take n text;
  decimals = d;
  spelled = unsigned_of text v n d part tail h.digits some;
  too_fine = h.too_fine;
}
decimal_fault TooLarge text v n p d part tail some h = absurd h

scaled : (text : List ℕ) (v n p unit decimal : ℕ) (d : List ℕ) → IsWholePart text v n → IsDecimalPart d p decimal → unit ≡ 10 ^ p → IsScaled limit (digits_value 10 (take n text)) v (digits_value 10 d) decimal (10 ^ length d) unit
scaled text v n p unit decimal d part part_of e = record {
  capped = part.capped;
  same = ap (λ (m : ℕ). digits_value 10 d * m) e ∙ (fine_units d p part_of.fine ∙ ap (λ (m : ℕ). m * 10 ^ length d) (sym part_of.value_is));
  left = power_positive (length d);
  right = subst (λ (m : ℕ). 0 < m) (sym e) (power_positive p);
}

-- the number is at most the limit
pub within_limit : (text : List ℕ) (v n p unit decimal : ℕ) (d : List ℕ) → IsWholePart text v n → IsTail (drop n text) d → (n + length d ≡ 0 → ⊥) → IsDecimalPart d p decimal → unit ≡ 10 ^ p → v * unit + decimal ≤ limit * unit → IsMagnitude text p (v * unit + decimal)
within_limit text v n p unit decimal d part tail some part_of e small =
    let s = scaled text v n p unit decimal d part part_of e in
    let split = all_digits_split (take n text) d in
    let value = scaled_value limit (digits_value 10 (take n text)) v (digits_value 10 d) decimal (10 ^ length d) unit s small in
    let below = scaled_small limit (digits_value 10 (take n text)) v (digits_value 10 d) decimal (10 ^ length d) unit s small in
    record {
      whole = take n text;
      decimals = d;
      spelled = unsigned_of text v n d part tail part_of.digits some;
      fine = part_of.fine;
      small = subst (λ (m : ℕ). m ≤ limit * 10 ^ length d) (sym split) below;
      value = value ∙ (ap (λ (m : ℕ). m * unit) (sym split) ∙ ap (λ (m : ℕ). all_digits (take n text) d * m) e);
      in_range = subst (λ (m : ℕ). v * unit + decimal ≤ limit * m) e small;
    }

-- the number is above the limit
pub above_limit : (text : List ℕ) (v n p unit decimal : ℕ) (d : List ℕ) → IsWholePart text v n → IsTail (drop n text) d → (n + length d ≡ 0 → ⊥) → IsDecimalPart d p decimal → unit ≡ 10 ^ p → limit * unit < v * unit + decimal → IsTooLargeUnsigned text p
above_limit text v n p unit decimal d part tail some part_of e large =
    let s = scaled text v n p unit decimal d part part_of e in
    let split = all_digits_split (take n text) d in
    let above = scaled_large limit (digits_value 10 (take n text)) v (digits_value 10 d) decimal (10 ^ length d) unit s large in
    record {
      whole = take n text;
      decimals = d;
      spelled = unsigned_of text v n d part tail part_of.digits some;
      fine = part_of.fine;
      too_large = subst (λ (m : ℕ). limit * 10 ^ length d < m) (sym split) above;
    }
