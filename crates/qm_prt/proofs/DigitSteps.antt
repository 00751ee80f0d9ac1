-- One digit more of a number that not too many digits spell.
use Rattle.std.proofs.Common.{◌≡◌, ◌<◌, ◌≤◌, ℕ, ◌+◌, ◌-◌, ◌*◌, ◌^◌, List, length, take, get_or, sym, ◌∙◌, arith}
use Rattle.std.specs.Char.{digit_value}
use Rattle.std.specs.Str.Parse.{AllDigits, digits_value}
use Rattle.std.proofs.lemmas.Int.Digits.{digits_value_more}
use Rattle.std.proofs.lemmas.Str.{digit_value_digit}
use Rattle.std.proofs.lemmas.Str.Parse.{IsNumeralModel, numerals_by_value, tells_digits, digits_value_short, digits_value-take-le, digit_from_value}
use Rattle.qm_numerals.proofs.Texts.{digit_within}

own : IsNumeralModel (AllDigits 10) (digits_value 10)
own = numerals_by_value (AllDigits 10) tells_digits

module _ (digits : List ℕ) (i value : ℕ) (are : AllDigits 10 digits) (few : length digits ≤ 18) (there : i < length digits) (so_far : value ≡ digits_value 10 (take i digits)) where
  pub digit_above : 48 ≤ get_or digits i 0
  digit_above = (digit_from_value (get_or digits i 0) (digit_within digits i are there)).0

  pub value_more : (digit : ℕ) → digit ≡ get_or digits i 0 - 48 → value * 10 + digit ≡ digits_value 10 (take (i + 1) digits)
  value_more digit is =
      let byte = get_or digits i 0 in
      let same = digit_value_digit byte (digit_from_value byte (digit_within digits i are there)) in
      let d : digit ≡ digit_value byte = omega (arith, same, is) in
      sym (digits_value_more 10 digits i there ∙ omega (arith, so_far, d))

  pub value_fits : (digit : ℕ) → digit ≡ get_or digits i 0 - 48 → value * 10 + digit < 10 ^ 18
  value_fits digit is =
      let more = value_more digit is in
      let most = digits_value-take-le 10 digits (i + 1) (omega arith) in
      let small = digits_value_short own digits 18 are few in
      omega (arith, more, most, small)
