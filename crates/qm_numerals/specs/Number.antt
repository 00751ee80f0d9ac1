use Rattle.std.specs.Prelude.{◌≡◌, ◌<◌, ◌⊎◌, ℕ, ◌+◌, List, [], ◌∷◌, ◌++◌, length, ℤ, pos, neg_ℤ}
use Rattle.std.specs.Str.Parse.{digits_value, AllDigits}

-- what may stand before a number's digits
pub data Sign : Type 0 where
  missing : Sign
  plus : Sign
  minus : Sign

-- the bytes of a sign: none, `+` or `-`
abbrev pub sign_text : Sign → List ℕ
sign_text missing = []
sign_text plus = 43 ∷ []
sign_text minus = 45 ∷ []

-- n with the sign before it
abbrev pub signed_by : Sign → ℕ → ℤ
signed_by missing n = pos n
signed_by plus n = pos n
signed_by minus n = neg_ℤ (pos n)

-- what stands behind the digits before the point: the point and the decimals, or nothing where there are none
abbrev pub IsTail : List ℕ → List ℕ → Type 0
IsTail tail decimals = (tail ≡ 46 ∷ decimals) ⊎ ((tail ≡ []) × (decimals ≡ []))

-- digits, and perhaps a point and decimals behind them, which are `tail`; one digit at least in all
pub record IsUnsigned (text whole decimals : List ℕ) : Type 0 where
  pub tail : List ℕ
  pub spelled : text ≡ whole ++ tail
  pub whole_digits : AllDigits 10 whole
  pub ended : IsTail tail decimals
  pub decimal_digits : AllDigits 10 decimals
  pub some_digit : 0 < length whole + length decimals

-- the parts of a decimal number: its sign, its digits before the point and those after it
pub record Number : Type 0 where
  pub sign : Sign
  pub whole : List ℕ
  pub decimals : List ℕ

-- the text is the number's sign, and behind it `unsigned`, its digits and point
pub record SpellsNumber (text : List ℕ) (number : Number) : Type 0 where
  pub unsigned : List ℕ
  pub signed_text : text ≡ sign_text number.sign ++ unsigned
  pub digits : IsUnsigned unsigned number.whole number.decimals

-- the number that all digits write as if there were no point; the value is this over ten to the count of decimals
abbrev pub all_digits : List ℕ → List ℕ → ℕ
all_digits whole decimals = digits_value 10 (whole ++ decimals)
