-- What reading a text answers, computed from left to right.
use Rattle.std.specs.Prelude.{ℕ, ◌+◌, ◌-◌, ◌*◌, ◌^◌, pos, neg_ℤ, Bool, true, false, ◌==◌, nat_lt, if◌then◌else◌, List, [], ◌∷◌, length, take, drop, Result, Ok, Err}
use Rattle.std.specs.Char.{is_ascii_digit}
use Rattle.std.specs.List.{list_all, prefix_len}
use Rattle.std.specs.Str.Parse.{digits_value}
use Rattle.qm_numerals.specs.declared.fraction.Fraction.{Fraction}
use Rattle.qm_numerals.specs.declared.fraction.NumberFault.{NumberFault}
use Rattle.qm_numerals.specs.declared.fraction.NumberFault.TheVariants.{Form, TooFine, TooLarge}
use Rattle.qm_numerals.specs.Answer.{limit}

-- decimals in units of ten to the minus places
abbrev pub in_units : List ℕ → ℕ → ℕ
in_units decimals places = digits_value 10 (take places decimals) * 10 ^ (places - length decimals)

-- the fraction of a magnitude in units of ten to the minus places
abbrev pub fraction_of : Bool → ℕ → ℕ → Fraction
fraction_of negative places magnitude =
    record { numerator = if negative then neg_ℤ (pos magnitude) else pos magnitude; places = places }

-- the answer for that magnitude
abbrev pub answer_of_magnitude : Bool → ℕ → ℕ → Result Fraction NumberFault
answer_of_magnitude negative places magnitude =
    if nat_lt (limit * 10 ^ places) magnitude then Err TooLarge else Ok (fraction_of negative places magnitude)

-- the answer for digits before and behind a point
abbrev pub answer_of_digits : Bool → ℕ → List ℕ → List ℕ → Result Fraction NumberFault
answer_of_digits negative places whole decimals =
    if list_all (λ byte. byte == 48) (drop places decimals) then
    answer_of_magnitude negative places (digits_value 10 whole * 10 ^ places + in_units decimals places)
    else Err TooFine

-- the answer for digits before a point and bytes behind it
unfoldable pub answer_of_parts : Bool → ℕ → List ℕ → List ℕ → Result Fraction NumberFault
answer_of_parts negative places whole decimals =
    if length whole + length decimals == 0 then Err Form
    else (if list_all is_ascii_digit decimals then answer_of_digits negative places whole decimals else Err Form)

-- the same where what stands behind the digits before the point is nothing, or the point and more
abbrev pub answer_of_tail : Bool → ℕ → List ℕ → List ℕ → Result Fraction NumberFault
answer_of_tail negative places whole [] = answer_of_parts negative places whole []
answer_of_tail negative places whole (byte ∷ bytes) =
    if byte == 46 then answer_of_parts negative places whole bytes else Err Form

-- the answer for a text without its sign
unfoldable pub unsigned_at : Bool → ℕ → List ℕ → Result Fraction NumberFault
unsigned_at negative places text =
    let count = prefix_len is_ascii_digit text in
    answer_of_tail negative places (take count text) (drop count text)

-- the answer for a text
unfoldable pub read_at : List ℕ → ℕ → Result Fraction NumberFault
read_at [] places = unsigned_at false places []
read_at (byte ∷ bytes) places =
    if byte == 45 then unsigned_at true places bytes
    else (if byte == 43 then unsigned_at false places bytes
    else unsigned_at false places (byte ∷ bytes))
