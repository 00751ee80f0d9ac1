use Rattle.std.specs.Prelude.{ℕ, ◌+◌, ◌*◌, ◌/◌, ◌%◌, ◌^◌, ℤ, pos, neg_ℤ, unsigned_abs, Bool, true, false, not, ◌&&◌, ◌||◌, ◌==◌, nat_lt, nat_le, List, [], ◌∷◌, ◌++◌, take, drop, length, slice_index_or, Option, Some, None, if◌then◌else◌, decimal}
use Rattle.std.specs.Char.{is_ascii_digit}
use Rattle.std.specs.List.{list_all, prefix_len}
use Rattle.std.specs.Str.Parse.{digits_value}
use Rattle.qm_numbers.specs.Sign.{is_negative}
use Rattle.qm_numerals.specs.Printed.{shown_sign, with_six_decimals}
use Rattle.qm_listing.specs.declared.listing.Coordinate.{Coordinate}
use Rattle.qm_listing.specs.Numerals.{Spelling}

-- The numbers of a listing.

-- at most so many digits has a count, or a number of a leaf
abbrev pub most_digits : ℕ
most_digits = 18

-- digits, and not too many, of which the first is 0 only where it stands alone
unfoldable pub is_count_numeral : List ℕ → Bool
is_count_numeral numeral =
    nat_le 1 (length numeral) && (nat_le (length numeral) most_digits && (list_all is_ascii_digit numeral && ((length numeral == 1) || not (slice_index_or numeral 0 0 == 48))))

-- the number that such a numeral spells
unfoldable pub count_of_numeral : List ℕ → Option ℕ
count_of_numeral numeral = if is_count_numeral numeral then Some (digits_value 10 numeral) else None

-- counts and numbers of leaves, in decimal digits
abbrev pub counts : Spelling ℕ
counts = record { numeral_of = decimal; right = λ n. nat_lt n (10 ^ most_digits); value_of = count_of_numeral }

-- the greatest absolute value of a coordinate, 32,768, in millionths
abbrev pub most_millionths : ℕ
most_millionths = 32768 * 1000000

abbrev pub with_sign : Bool → ℕ → ℤ
with_sign negative n = if negative then neg_ℤ (pos n) else pos n

-- a whole coordinate in decimal digits, any other with a point and six decimals; a `-` before it where it is below 0
unfoldable pub coordinate_numeral : Coordinate → List ℕ
coordinate_numeral c =
    let negative = is_negative c.millionths in
    let n = unsigned_abs c.millionths in
    if c.whole then shown_sign negative n ++ decimal (n / 1000000) else with_six_decimals negative n

-- not too large, and no decimals in a whole one
unfoldable pub is_coordinate : Coordinate → Bool
is_coordinate c =
    nat_le (unsigned_abs c.millionths) most_millionths && (not c.whole || (unsigned_abs c.millionths % 1000000 == 0))

-- the coordinate of an absolute value that is not too large, and that is not 0 behind a `-`
abbrev pub signed_coordinate : Bool → Bool → ℕ → Option Coordinate
signed_coordinate negative whole n =
    if nat_le n most_millionths && (not negative || nat_lt 0 n) then Some (record { millionths = with_sign negative n; whole = whole }) else None

-- the same, of what stands before the point and of what stands from the point on
abbrev pub coordinate_of_parts : Bool → Option ℕ → List ℕ → Option Coordinate
coordinate_of_parts negative None tail = None
coordinate_of_parts negative (Some n) [] = signed_coordinate negative true (n * 1000000)
coordinate_of_parts negative (Some n) (point ∷ decimals) =
    if (point == 46) && ((length decimals == 6) && list_all is_ascii_digit decimals) then signed_coordinate negative false (n * 1000000 + digits_value 10 decimals)
    else None

-- the same, of a numeral without its sign
unfoldable pub unsigned_coordinate : Bool → List ℕ → Option Coordinate
unsigned_coordinate negative numeral =
    let count = prefix_len is_ascii_digit numeral in
    coordinate_of_parts negative (count_of_numeral (take count numeral)) (drop count numeral)

-- the coordinate that a numeral spells
unfoldable pub coordinate_of_numeral : List ℕ → Option Coordinate
coordinate_of_numeral [] = None
coordinate_of_numeral (byte ∷ bytes) = if byte == 45 then unsigned_coordinate true bytes else unsigned_coordinate false (byte ∷ bytes)

abbrev pub coordinates : Spelling Coordinate
coordinates = record { numeral_of = coordinate_numeral; right = is_coordinate; value_of = coordinate_of_numeral }
