-- The value of so few digits that it is below the limit, whatever they are.
use Rattle.std.proofs.Common.{◌<◌, ◌≤◌, ℕ, ◌^◌, List, length, take, arith}
use Rattle.std.specs.Str.Parse.{AllDigits, digits_value}
use Rattle.std.proofs.lemmas.Int.Digits.{digits_value-lt}
use Rattle.std.proofs.lemmas.List.{length-take}
use Rattle.std.proofs.Math.Nat.{pow-le-pow_right}
use Rattle.qm_numerals.specs.Answer.{limit}
use Rattle.qm_decimal.specs.declared.whole.TheConstants.{FREE_DIGITS}

pub free_digits : (ds : List ℕ) → AllDigits 10 ds → length ds ≤ FREE_DIGITS → digits_value 10 ds < limit
free_digits ds h few =
    let below = digits_value-lt 10 ds h in
    let power : 10 ^ length ds ≤ 10 ^ FREE_DIGITS = pow-le-pow_right (let ten : 0 < 10 = omega arith in ten) few in
    omega (arith, below, power)

-- the same of the first bytes of a text
pub first_free : (text : List ℕ) (count : ℕ) → AllDigits 10 (take count text) → count ≤ FREE_DIGITS → digits_value 10 (take count text) < limit
first_free text count h few = free_digits (take count text) h (omega (arith, length-take count text))
