use Rattle.std.specs.Prelude.{ℕ, zero, suc, ◌+◌, ◌*◌, ◌/◌, ◌%◌, ◌≤◌, ◌<◌, ◌==◌, ℤ, pos, negsuc, Bool, true, false, if◌then◌else◌, List, [], ◌∷◌, ◌++◌, decimal}

-- the last `count` digits of n, with zeros before them where it has fewer
abbrev pub last_digits : ℕ → ℕ → List ℕ
last_digits zero n = []
last_digits (suc count) n = last_digits count (n / 10) ++ (48 + n % 10) ∷ []

-- the sign of a number that is shown as `shown` of some unit: `-` where it is negative and what is shown is not 0
abbrev pub shown_sign : Bool → ℕ → List ℕ
shown_sign false shown = []
shown_sign true zero = []
shown_sign true (suc shown) = 45 ∷ []

-- over / under in millionths, to the nearest, and a half rounded up
abbrev pub millionths : ℕ → ℕ → ℕ
millionths over under = (2 * over * 1000000 + under) / (2 * under)

-- millionths as a whole number, a point and six decimals
abbrev pub with_six_decimals : Bool → ℕ → List ℕ
with_six_decimals negative n = shown_sign negative n ++ (decimal (n / 1000000) ++ (46 ∷ last_digits 6 (n % 1000000)))

-- over / under, negative or not: a whole value as a whole number, any other with six decimals
abbrev pub printed_fraction : Bool → ℕ → ℕ → List ℕ
printed_fraction negative over under =
    if over % under == 0 then shown_sign negative (over / under) ++ decimal (over / under)
    else with_six_decimals negative (millionths over under)

-- n millionths are nearer to over / under than any other number of millionths, or as near and further from 0
pub record IsNearestMillionths (over under n : ℕ) : Type 0 where
  pub not_above : 2 * n * under ≤ 2 * over * 1000000 + under
  pub not_below : 2 * over * 1000000 + under < 2 * (n + 1) * under

-- the decimals of less than a thousand thousandths, without zeros at their end
abbrev pub decimals_of_thousandths : ℕ → List ℕ
decimals_of_thousandths n =
    if n == 0 then []
    else (if n % 100 == 0 then last_digits 1 (n / 100)
    else (if n % 10 == 0 then last_digits 2 (n / 10)
    else last_digits 3 n))

-- a point and the decimals behind it, or nothing where there are none
abbrev pub with_point : List ℕ → List ℕ
with_point [] = []
with_point (digit ∷ digits) = 46 ∷ digit ∷ digits

-- so many thousandths: the whole part without leading zeros, and where they are not whole a point and their decimals
unfoldable pub thousandths_text : ℕ → List ℕ
thousandths_text n = decimal (n / 1000) ++ with_point (decimals_of_thousandths (n % 1000))

-- the same, behind `-` where the number is below 0
unfoldable pub signed_thousandths : ℤ → List ℕ
signed_thousandths (pos n) = thousandths_text n
signed_thousandths (negsuc n) = 45 ∷ thousandths_text (suc n)
