use Rattle.std.specs.Prelude.{◌≡◌, ◌≢◌, ◌≤◌, ◌<◌, ℕ, ◌*◌, ◌^◌, List, drop, length, pos, ◌*ℤ◌, All, Any, Ok, Err, Result}
use Rattle.qm_numerals.specs.Number.{Number, SpellsNumber, all_digits, signed_by}
use Rattle.qm_numerals.specs.declared.fraction.Fraction.{Fraction}
use Rattle.qm_numerals.specs.declared.fraction.NumberFault.{NumberFault}
use Rattle.qm_numerals.specs.declared.fraction.NumberFault.TheVariants.{Form, TooFine, TooLarge}

-- the greatest absolute value
abbrev pub limit : ℕ
limit = 1000000000

-- past that many decimals there are only the digits 0, of byte 48
abbrev pub IsFine : ℕ → List ℕ → Type 0
IsFine places decimals = All (λ byte. byte ≡ 48) (drop places decimals)

-- a digit other than 0 stands past that many decimals
abbrev pub IsTooFine : ℕ → List ℕ → Type 0
IsTooFine places decimals = Any (λ byte. byte ≢ 48) (drop places decimals)

-- the absolute value is at most the limit
abbrev pub IsSmall : List ℕ → List ℕ → Type 0
IsSmall whole decimals = all_digits whole decimals ≤ limit * 10 ^ length decimals

-- the absolute value is above the limit
abbrev pub IsTooLarge : List ℕ → List ℕ → Type 0
IsTooLarge whole decimals = limit * 10 ^ length decimals < all_digits whole decimals

-- the fraction is exactly the value of a number that the text spells, and has the places asked for:
-- numerator / 10 ^ places is all digits / 10 ^ (count of decimals), with the sign
pub record IsValue (text : List ℕ) (places : ℕ) (fraction : Fraction) : Type 0 where
  pub number : Number
  pub spelled : SpellsNumber text number
  pub fine : IsFine places number.decimals
  pub small : IsSmall number.whole number.decimals
  pub places_kept : fraction.places ≡ places
  pub value : fraction.numerator *ℤ pos (10 ^ length number.decimals) ≡ signed_by number.sign (all_digits number.whole number.decimals * 10 ^ places)

-- the text spells a number with a digit other than 0 past that many decimals
pub record IsTooFineText (text : List ℕ) (places : ℕ) : Type 0 where
  pub number : Number
  pub spelled : SpellsNumber text number
  pub too_fine : IsTooFine places number.decimals

-- the text spells a number that is not too fine, and whose absolute value is above the limit
pub record IsTooLargeText (text : List ℕ) (places : ℕ) : Type 0 where
  pub number : Number
  pub spelled : SpellsNumber text number
  pub fine : IsFine places number.decimals
  pub too_large : IsTooLarge number.whole number.decimals

-- the text spells no number
abbrev pub IsNoNumber : List ℕ → Type 0
IsNoNumber text = (number : Number) → SpellsNumber text number → ⊥

-- what reading the text at that many places answers
abbrev pub IsAnswer : List ℕ → ℕ → Result Fraction NumberFault → Type 0
IsAnswer text places (Ok fraction) = IsValue text places fraction
IsAnswer text places (Err Form) = IsNoNumber text
IsAnswer text places (Err TooFine) = IsTooFineText text places
IsAnswer text places (Err TooLarge) = IsTooLargeText text places
