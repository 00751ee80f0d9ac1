use Rattle.std.specs.Prelude.{◌≡◌, ◌≢◌, ◌≤◌, ◌<◌, ℕ, ◌+◌, ◌*◌, ◌^◌, min, Bool, true, false, List, ◌++◌, length, take, slice_index, All, Any, Ok, Err, Result}
use Rattle.std.specs.Char.{digit_value}
use Rattle.std.specs.Str.Parse.{digits_value, AllDigits}
use Rattle.qm_numerals.specs.Number.{Sign, missing, plus, minus, sign_text, IsUnsigned, all_digits}
use Rattle.qm_numerals.specs.Computed.{in_units}
use Rattle.qm_numerals.specs.Answer.{limit, IsFine, IsTooFine, IsSmall, IsTooLarge}
use Rattle.qm_numerals.specs.declared.fraction.NumberFault.{NumberFault}
use Rattle.qm_numerals.specs.declared.fraction.NumberFault.TheVariants.{Form, TooFine, TooLarge}

-- whether a sign is `-`
abbrev pub is_minus : Sign → Bool
is_minus missing = false
is_minus plus = false
is_minus minus = true

-- a text in two: its sign, if there is one, and what stands behind it
pub record IsSignSplit (text : List ℕ) (is_negative : Bool) (unsigned : List ℕ) : Type 0 where
  pub sign : Sign
  pub spelled : text ≡ sign_text sign ++ unsigned
  pub negative : is_negative ≡ is_minus sign
  pub no_more : sign ≡ missing → (slice_index unsigned 0 ≡ 43 → ⊥) × (slice_index unsigned 0 ≡ 45 → ⊥)

-- the digits that a text begins with, all of them, and their value, kept at one above the limit where it is more
pub record IsWholePart (text : List ℕ) (value count : ℕ) : Type 0 where
  pub within : count ≤ length text
  pub digits : AllDigits 10 (take count text)
  pub ends : count < length text → 10 ≤ digit_value (slice_index text count)
  pub capped : value ≡ min (limit + 1) (digits_value 10 (take count text))

-- what reading digits that must be 0 answers
abbrev pub IsZerosAnswer : List ℕ → Result (Unit {0}) NumberFault → Type 0
IsZerosAnswer text (Ok _) = All (λ byte. byte ≡ 48) text
IsZerosAnswer text (Err Form) = AllDigits 10 text → ⊥
IsZerosAnswer text (Err TooFine) = AllDigits 10 text × Any (λ byte. byte ≢ 48) text
IsZerosAnswer text (Err TooLarge) = ⊥

-- the decimals of a number, that are fine at these places
pub record IsDecimalPart (decimals : List ℕ) (places value : ℕ) : Type 0 where
  pub digits : AllDigits 10 decimals
  pub fine : IsFine places decimals
  pub value_is : value ≡ in_units decimals places

-- decimals that are too fine
pub record IsTooFinePart (decimals : List ℕ) (places : ℕ) : Type 0 where
  pub digits : AllDigits 10 decimals
  pub too_fine : IsTooFine places decimals

-- what reading the decimals answers
abbrev pub IsDecimalAnswer : List ℕ → ℕ → Result ℕ NumberFault → Type 0
IsDecimalAnswer decimals places (Ok value) = IsDecimalPart decimals places value
IsDecimalAnswer decimals places (Err Form) = AllDigits 10 decimals → ⊥
IsDecimalAnswer decimals places (Err TooFine) = IsTooFinePart decimals places
IsDecimalAnswer decimals places (Err TooLarge) = ⊥

-- the absolute value of an unsigned number in units of ten to the minus places
pub record IsMagnitude (text : List ℕ) (places magnitude : ℕ) : Type 0 where
  pub whole : List ℕ
  pub decimals : List ℕ
  pub spelled : IsUnsigned text whole decimals
  pub fine : IsFine places decimals
  pub small : IsSmall whole decimals
  pub value : magnitude * 10 ^ length decimals ≡ all_digits whole decimals * 10 ^ places
  pub in_range : magnitude ≤ limit * 10 ^ places

-- an unsigned number that is too fine
pub record IsTooFineUnsigned (text : List ℕ) (places : ℕ) : Type 0 where
  pub whole : List ℕ
  pub decimals : List ℕ
  pub spelled : IsUnsigned text whole decimals
  pub too_fine : IsTooFine places decimals

-- an unsigned number that is too large, and not too fine
pub record IsTooLargeUnsigned (text : List ℕ) (places : ℕ) : Type 0 where
  pub whole : List ℕ
  pub decimals : List ℕ
  pub spelled : IsUnsigned text whole decimals
  pub fine : IsFine places decimals
  pub too_large : IsTooLarge whole decimals

-- what reading an unsigned number answers
abbrev pub IsMagnitudeAnswer : List ℕ → ℕ → Result ℕ NumberFault → Type 0
IsMagnitudeAnswer text places (Ok magnitude) = IsMagnitude text places magnitude
IsMagnitudeAnswer text places (Err Form) = (whole decimals : List ℕ) → IsUnsigned text whole decimals → ⊥
IsMagnitudeAnswer text places (Err TooFine) = IsTooFineUnsigned text places
IsMagnitudeAnswer text places (Err TooLarge) = IsTooLargeUnsigned text places
