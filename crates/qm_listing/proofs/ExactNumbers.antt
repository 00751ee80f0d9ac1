-- Counts and coordinates are spelled by one numeral each.
use Rattle.std.proofs.Common.{◌≡◌, ◌⊎◌, ◌<◌, ◌≤◌, ℕ, zero, suc, ◌+◌, ◌*◌, ◌/◌, ◌%◌, ◌^◌, ℤ, pos, negsuc, Bool, true, false, cond, eqb, ltb, leb, not, ◌&&◌, ◌||◌, List, [], ◌∷◌, ◌++◌, length, take, drop, get_or, Option, Some, None, refl, sym, ap, subst, ◌∙◌, arith, inl, inr}
use Rattle.std.specs.Prelude.{decimal, unsigned_abs}
use Rattle.std.specs.Char.{is_ascii_digit}
use Rattle.std.specs.List.{list_all, prefix_len}
use Rattle.std.specs.Str.Parse.{AllDigits, digits_value}
use Rattle.std.proofs.lemmas.Bool.{and_parts, and_from, eqb-true, eq-eqb, ne_eqb, leb-true, le-leb, lt-ltb, ltb-true}
use Rattle.std.proofs.lemmas.Fmt.{decimal-digits_value, digits_decimal, digits_value-decimal, decimal_nonempty, length-decimal-le, first_decimal, decimal_digit}
use Rattle.std.proofs.lemmas.List.{take_at, drop_at, take-append-drop, append-nil, length-append}
use Rattle.std.proofs.lemmas.List.Folds.{list_all-append}
use Rattle.std.proofs.lemmas.Str.Parse.{IsNumeralModel, numerals_by_value, tells_digits, digits_value_short, digit_from_value}
use Rattle.qm_numerals.specs.Printed.{shown_sign, last_digits, with_six_decimals}
use Rattle.qm_numerals.proofs.ByteTests.{digits_from_test, test_from_digits}
use Rattle.qm_listing.specs.declared.listing.Coordinate.{Coordinate}
use Rattle.qm_listing.specs.Numerals.{is_number_byte}
use Rattle.qm_numbers.specs.Sign.{is_negative}
use Rattle.qm_listing.specs.Numbers.{most_digits, is_count_numeral, count_of_numeral, counts, most_millionths, with_sign, coordinate_numeral, is_coordinate, signed_coordinate, coordinate_of_parts, unsigned_coordinate, coordinate_of_numeral, coordinates}
use Rattle.qm_listing.proofs.ExactNumerals.{IsSpelling}
use Rattle.qm_numerals.proofs.LastDigits.{last_of_value, last_digits-digits, last_digits-length, last_digits-value}

own : IsNumeralModel (AllDigits 10) (digits_value 10)
own = numerals_by_value (AllDigits 10) tells_digits

-- a value that is chosen by a test
chosen : {X : Type 0} (b : Bool) (x y : X) → cond b (Some x) None ≡ Some y → (b ≡ true) × (x ≡ y)
chosen true x y is = (refl, cc)
chosen false x y is = absurd (cc)

true_or_false : (b : Bool) → (b ≡ true) ⊎ (b ≡ false)
true_or_false true = inl refl
true_or_false false = inr refl

or_not : (b c : Bool) → (b || not c) ≡ true → c ≡ true → b ≡ true
or_not true c either is = refl
or_not false true either is = absurd cc
or_not false false either is = absurd cc

or_by : (b c : Bool) → (c ≡ true → b ≡ true) → (b || not c) ≡ true
or_by true c by = refl
or_by false true by = by refl
or_by false false by = refl

-- ---- counts

-- what a count's numeral is
pub record IsCountNumeral (numeral : List ℕ) : Type 0 where
  pub some : 0 < length numeral
  pub few : length numeral ≤ 18
  pub digits : AllDigits 10 numeral
  pub leads : get_or numeral 0 0 ≡ 48 → length numeral ≡ 1

pub count_numeral : (numeral : List ℕ) → is_count_numeral numeral ≡ true → IsCountNumeral numeral
unfolding is_count_numeral
count_numeral numeral is =
    let last = eqb (length numeral) 1 || not (eqb (get_or numeral 0 0) 48) in
    let digits = list_all is_ascii_digit numeral in
    let few = leb (length numeral) most_digits in
    let one = and_parts (leb 1 (length numeral)) (few && (digits && last)) is in
    let two = and_parts few (digits && last) one.1 in
    let three = and_parts digits last two.1 in
    record {
      some = leb-true 1 (length numeral) one.0;
      few = leb-true (length numeral) most_digits two.0;
      digits = digits_from_test numeral three.0;
      leads = λ zero_first. eqb-true (length numeral) 1 (or_not (eqb (length numeral) 1) (eqb (get_or numeral 0 0) 48) three.1 (eq-eqb (get_or numeral 0 0) 48 zero_first));
    }

pub numeral_count : (numeral : List ℕ) → IsCountNumeral numeral → is_count_numeral numeral ≡ true
unfolding is_count_numeral
numeral_count numeral is =
    let last = eqb (length numeral) 1 || not (eqb (get_or numeral 0 0) 48) in
    let digits = list_all is_ascii_digit numeral in
    let few = leb (length numeral) most_digits in
    and_from (leb 1 (length numeral)) (few && (digits && last)) (le-leb 1 (length numeral) is.some)
    (and_from few (digits && last) (le-leb (length numeral) most_digits is.few)
    (and_from digits last (test_from_digits numeral is.digits)
    (or_by (eqb (length numeral) 1) (eqb (get_or numeral 0 0) 48) (λ first. eq-eqb (length numeral) 1 (is.leads (eqb-true (get_or numeral 0 0) 48 first))))))

below_64 : (n : ℕ) → n < 10 ^ 18 → n < 2 ^ 64
below_64 n small = omega (arith, small)

first_is_zero : (n : ℕ) → n < 2 ^ 64 → get_or (decimal n) 0 0 ≡ 48 → length (decimal n) ≡ 1
first_is_zero zero small first = ap length (decimal_digit 0 (omega arith))
first_is_zero (suc n) small first = absurd (let e = first_decimal (suc n) (omega arith) small in omega (arith, e, first))

pub decimal_count : (n : ℕ) → n < 10 ^ 18 → IsCountNumeral (decimal n)
decimal_count n small =
    record {
      some = decimal_nonempty n (below_64 n small);
      few = length-decimal-le 18 n (omega arith) small (below_64 n small);
      digits = digits_decimal own n (below_64 n small);
      leads = first_is_zero n (below_64 n small);
    }

-- the number that a count's numeral spells
pub record IsCountOf (numeral : List ℕ) (n : ℕ) : Type 0 where
  pub small : n < 10 ^ 18
  pub spelled : decimal n ≡ numeral
  pub is_numeral : IsCountNumeral numeral

pub count_found : (numeral : List ℕ) (n : ℕ) → count_of_numeral numeral ≡ Some n → IsCountOf numeral n
unfolding count_of_numeral
count_found numeral n is =
    let passed = chosen (is_count_numeral numeral) (digits_value 10 numeral) n is in
    let numeral_is = count_numeral numeral passed.0 in
    let small = digits_value_short own numeral 18 numeral_is.digits numeral_is.few in
    let written = decimal-digits_value own numeral numeral_is.digits numeral_is.some numeral_is.leads (below_64 (digits_value 10 numeral) small) in
    record {
      small = subst (λ (m : ℕ). m < 10 ^ 18) passed.1 small;
      spelled = ap decimal (sym passed.1) ∙ written;
      is_numeral = numeral_is;
    }

pub count_again : (n : ℕ) → n < 10 ^ 18 → count_of_numeral (decimal n) ≡ Some n
unfolding count_of_numeral
count_again n small =
    ap (λ (b : Bool). cond b (Some (digits_value 10 (decimal n))) None) (numeral_count (decimal n) (decimal_count n small))
    ∙ ap (λ (m : ℕ). Some m) (digits_value-decimal own n (below_64 n small))

number_byte_by : (b c d : Bool) → b ≡ true → (b || (c || d)) ≡ true
number_byte_by true c d is = refl
number_byte_by false c d is = absurd cc

pub digits_bytes : (numeral : List ℕ) → list_all is_ascii_digit numeral ≡ true → list_all is_number_byte numeral ≡ true
digits_bytes [] all = refl
digits_bytes (byte ∷ numeral) all =
    let both = and_parts (is_ascii_digit byte) (list_all is_ascii_digit numeral) all in
    and_from (is_number_byte byte) (list_all is_number_byte numeral) (number_byte_by (is_ascii_digit byte) (eqb byte 45) (eqb byte 46) both.0) (digits_bytes numeral both.1)

pub decimal_bytes : (n : ℕ) → n < 10 ^ 18 → list_all is_number_byte (decimal n) ≡ true
decimal_bytes n small = digits_bytes (decimal n) (test_from_digits (decimal n) (decimal_count n small).digits)

pub counts_spelling : IsSpelling counts
counts_spelling =
    record {
      found = λ numeral n is. let count = count_found numeral n is in (lt-ltb n (10 ^ 18) count.small, count.spelled);
      again = λ n right. count_again n (ltb-true n (10 ^ 18) right);
      bytes = λ n right. decimal_bytes n (ltb-true n (10 ^ 18) right);
    }

-- ---- signs

-- the bytes of a sign
abbrev pub sign_bytes : Bool → List ℕ
sign_bytes true = 45 ∷ []
sign_bytes false = []

-- how a number with a sign is seen
record IsSigned (negative : Bool) (n : ℕ) : Type 0 where
  negative_is : is_negative (with_sign negative n) ≡ negative
  magnitude_is : unsigned_abs (with_sign negative n) ≡ n
  shown : shown_sign negative n ≡ sign_bytes negative

signed : (negative : Bool) (n : ℕ) → (not negative || ltb 0 n) ≡ true → IsSigned negative n
signed false n some = record { negative_is = refl; magnitude_is = refl; shown = refl }
signed true zero some = absurd cc
signed true (suc n) some = record { negative_is = refl; magnitude_is = refl; shown = refl }

own_sign : (z : ℤ) → with_sign (is_negative z) (unsigned_abs z) ≡ z
own_sign (pos n) = refl
own_sign (negsuc n) = refl

some_behind_sign : (z : ℤ) → (not (is_negative z) || ltb 0 (unsigned_abs z)) ≡ true
some_behind_sign (pos n) = refl
some_behind_sign (negsuc n) = lt-ltb 0 (suc n) (omega arith)

-- ---- coordinates

-- what a coordinate is that a sign and a number of millionths give
record IsSignedCoordinate (negative whole : Bool) (n : ℕ) (c : Coordinate) : Type 0 where
  small : leb n most_millionths ≡ true
  some : (not negative || ltb 0 n) ≡ true
  value : record { millionths = with_sign negative n; whole = whole } ≡ c

signed_found : (negative whole : Bool) (n : ℕ) (c : Coordinate) → signed_coordinate negative whole n ≡ Some c → IsSignedCoordinate negative whole n c
signed_found negative whole n c is =
    let passed = chosen (leb n most_millionths && (not negative || ltb 0 n)) (record { millionths = with_sign negative n; whole = whole }) c is in
    let both = and_parts (leb n most_millionths) (not negative || ltb 0 n) passed.0 in
    record { small = both.0; some = both.1; value = passed.1 }

-- a numeral is that of the coordinate, with its sign before it
record IsNumeralOf (negative : Bool) (numeral : List ℕ) (c : Coordinate) : Type 0 where
  right : is_coordinate c ≡ true
  spelled : coordinate_numeral c ≡ sign_bytes negative ++ numeral

whole_value : (n : ℕ) → (n * 1000000 / 1000000 ≡ n) × (n * 1000000 % 1000000 ≡ 0)
whole_value n = (omega arith, omega arith)

parted_value : (n v : ℕ) → v < 1000000 → ((n * 1000000 + v) / 1000000 ≡ n) × ((n * 1000000 + v) % 1000000 ≡ v)
parted_value n v small = (omega (arith, small), omega (arith, small))

whole_found : (negative : Bool) (n : ℕ) (numeral : List ℕ) (c : Coordinate) → decimal n ≡ numeral → IsSignedCoordinate negative true (n * 1000000) c → IsNumeralOf negative numeral c
unfolding is_coordinate coordinate_numeral
whole_found negative n numeral c written is =
    let m = n * 1000000 in
    let sign = signed negative m is.some in
    let parts = whole_value n in
    let own : Coordinate = record { millionths = with_sign negative m; whole = true } in
    let right : is_coordinate own ≡ true =
    ap (λ (k : ℕ). leb k most_millionths && (false || eqb (k % 1000000) 0)) sign.magnitude_is ∙ and_from (leb m most_millionths) (false || eqb (m % 1000000) 0) is.small (eq-eqb (m % 1000000) 0 parts.1)
    in
    let spelled : coordinate_numeral own ≡ sign_bytes negative ++ numeral =
    (λ i. shown_sign (sign.negative_is i) (sign.magnitude_is i) ++ decimal (sign.magnitude_is i / 1000000))
    ∙ ap (λ (k : ℕ). shown_sign negative m ++ decimal k) parts.0
    ∙ (λ i. sign.shown i ++ written i)
    in
    subst (λ (d : Coordinate). IsNumeralOf negative numeral d) is.value (record { right = right; spelled = spelled })

parted_found : (negative : Bool) (n : ℕ) (numeral decimals : List ℕ) (c : Coordinate) → decimal n ≡ numeral → AllDigits 10 decimals → length decimals ≡ 6 → IsSignedCoordinate negative false (n * 1000000 + digits_value 10 decimals) c → IsNumeralOf negative (numeral ++ (46 ∷ decimals)) c
unfolding is_coordinate coordinate_numeral
parted_found negative n numeral decimals c written digits long is =
    let v = digits_value 10 decimals in
    let m = n * 1000000 + v in
    let below : v < 1000000 = digits_value_short own decimals 6 digits (omega (arith, long)) in
    let sign = signed negative m is.some in
    let parts = parted_value n v below in
    let own : Coordinate = record { millionths = with_sign negative m; whole = false } in
    let right : is_coordinate own ≡ true =
    ap (λ (k : ℕ). leb k most_millionths && (true || eqb (k % 1000000) 0)) sign.magnitude_is ∙ and_from (leb m most_millionths) (true || eqb (m % 1000000) 0) is.small refl
    in
    let spelled : coordinate_numeral own ≡ sign_bytes negative ++ (numeral ++ (46 ∷ decimals)) =
    (λ i. with_six_decimals (sign.negative_is i) (sign.magnitude_is i))
    ∙ (λ i. sign.shown i ++ (decimal (parts.0 i) ++ (46 ∷ last_digits 6 (parts.1 i))))
    ∙ (λ i. sign_bytes negative ++ (written i ++ (46 ∷ last_of_value 6 decimals digits long i)))
    in
    subst (λ (d : Coordinate). IsNumeralOf negative (numeral ++ (46 ∷ decimals)) d) is.value (record { right = right; spelled = spelled })

parts_found : (negative : Bool) (whole : Option ℕ) (numeral tail : List ℕ) (c : Coordinate) → count_of_numeral numeral ≡ whole → coordinate_of_parts negative whole tail ≡ Some c → IsNumeralOf negative (numeral ++ tail) c
parts_found negative None numeral tail c count is = absurd (cc)
parts_found negative (Some n) numeral [] c count is =
    subst (λ (w : List ℕ). IsNumeralOf negative w c) (sym (append-nil numeral)) (whole_found negative n numeral c (count_found numeral n count).spelled (signed_found negative true (n * 1000000) c is))
parts_found negative (Some n) numeral (point ∷ decimals) c count is =
    let test = eqb point 46 && (eqb (length decimals) 6 && list_all is_ascii_digit decimals) in
    elim (true_or_false test) [
      | inl passes ↦
          let both = and_parts (eqb point 46) (eqb (length decimals) 6 && list_all is_ascii_digit decimals) passes in
          let behind = and_parts (eqb (length decimals) 6) (list_all is_ascii_digit decimals) both.1 in
          let value = sym (ap (λ (b : Bool). cond b (signed_coordinate negative false (n * 1000000 + digits_value 10 decimals)) None) passes) ∙ is in
          let found = parted_found negative n numeral decimals c (count_found numeral n count).spelled (digits_from_test decimals behind.1) (eqb-true (length decimals) 6 behind.0) (signed_found negative false (n * 1000000 + digits_value 10 decimals) c value) in
          subst (λ (b : ℕ). IsNumeralOf negative (numeral ++ (b ∷ decimals)) c) (sym (eqb-true point 46 both.0)) found
      | inr fails ↦ absurd (let e = sym (ap (λ (b : Bool). cond b (signed_coordinate negative false (n * 1000000 + digits_value 10 decimals)) None) fails) ∙ is in cc)
    ]

unsigned_found : (negative : Bool) (numeral : List ℕ) (c : Coordinate) → unsigned_coordinate negative numeral ≡ Some c → IsNumeralOf negative numeral c
unfolding unsigned_coordinate
unsigned_found negative numeral c is =
    let k = prefix_len is_ascii_digit numeral in
    subst (λ (w : List ℕ). IsNumeralOf negative w c) (take-append-drop k numeral) (parts_found negative (count_of_numeral (take k numeral)) (take k numeral) (drop k numeral) c refl is)

signed_by_head : (byte : ℕ) (bytes : List ℕ) (c : Coordinate) (b : Bool) → eqb byte 45 ≡ b → cond b (unsigned_coordinate true bytes) (unsigned_coordinate false (byte ∷ bytes)) ≡ Some c → (is_coordinate c ≡ true) × (coordinate_numeral c ≡ byte ∷ bytes)
signed_by_head byte bytes c true head is =
    let found = unsigned_found true bytes c is in
    (found.right, found.spelled ∙ ap (λ (x : ℕ). x ∷ bytes) (sym (eqb-true byte 45 head)))
signed_by_head byte bytes c false head is = let found = unsigned_found false (byte ∷ bytes) c is in (found.right, found.spelled)

coordinate_found : (numeral : List ℕ) (c : Coordinate) → coordinate_of_numeral numeral ≡ Some c → (is_coordinate c ≡ true) × (coordinate_numeral c ≡ numeral)
unfolding coordinate_of_numeral
coordinate_found [] c is = absurd (cc)
coordinate_found (byte ∷ bytes) c is = signed_by_head byte bytes c (eqb byte 45) refl is

-- ---- from a coordinate to its numeral, and back

first_digit : (numeral rest : List ℕ) → AllDigits 10 numeral → 0 < length numeral → (byte : ℕ) (bytes : List ℕ) → numeral ++ rest ≡ byte ∷ bytes → eqb byte 45 ≡ false
first_digit [] rest digits some byte bytes is = absurd (omega (arith, some))
first_digit (x ∷ numeral) rest digits some byte bytes is =
    let head : x ≡ byte = cc in
    let range = digit_from_value x digits.0 in
    ne_eqb byte 45 (λ e. absurd (omega (arith, head, range.0, e)))

unsigned_head : (text : List ℕ) → ((byte : ℕ) (bytes : List ℕ) → text ≡ byte ∷ bytes → eqb byte 45 ≡ false) → 0 < length text → coordinate_of_numeral text ≡ unsigned_coordinate false text
unfolding coordinate_of_numeral
unsigned_head [] no_sign some = absurd (omega (arith, some))
unsigned_head (byte ∷ bytes) no_sign some = ap (λ (b : Bool). cond b (unsigned_coordinate true bytes) (unsigned_coordinate false (byte ∷ bytes))) (no_sign byte bytes refl)

minus_head : (text : List ℕ) → coordinate_of_numeral (45 ∷ text) ≡ unsigned_coordinate true text
unfolding coordinate_of_numeral
minus_head text = refl

signed_again : (negative : Bool) (numeral rest : List ℕ) → AllDigits 10 numeral → 0 < length numeral → coordinate_of_numeral (sign_bytes negative ++ (numeral ++ rest)) ≡ unsigned_coordinate negative (numeral ++ rest)
signed_again false numeral rest digits some = unsigned_head (numeral ++ rest) (first_digit numeral rest digits some) (omega (arith, length-append numeral rest, some))
signed_again true numeral rest digits some = minus_head (numeral ++ rest)

-- what stands behind the whole part: nothing, or a byte that is no digit
abbrev NoDigitFirst : List ℕ → Type 0
NoDigitFirst rest = (byte : ℕ) (bytes : List ℕ) → rest ≡ byte ∷ bytes → is_ascii_digit byte ≡ false

digits_prefix : (numeral rest : List ℕ) → list_all is_ascii_digit numeral ≡ true → NoDigitFirst rest → prefix_len is_ascii_digit (numeral ++ rest) ≡ length numeral
digits_prefix [] [] all none = refl
digits_prefix [] (byte ∷ bytes) all none = ap (λ (b : Bool). cond b (1 + prefix_len is_ascii_digit bytes) 0) (none byte bytes refl)
digits_prefix (x ∷ numeral) rest all none =
    let both = and_parts (is_ascii_digit x) (list_all is_ascii_digit numeral) all in
    let behind = digits_prefix numeral rest both.1 none in
    ap (λ (b : Bool). cond b (1 + prefix_len is_ascii_digit (numeral ++ rest)) 0) both.0 ∙ omega (arith, behind)

unsigned_again : (negative : Bool) (n : ℕ) (rest : List ℕ) → n < 10 ^ 18 → NoDigitFirst rest → unsigned_coordinate negative (decimal n ++ rest) ≡ coordinate_of_parts negative (Some n) rest
unfolding unsigned_coordinate
unsigned_again negative n rest small none =
    let w = decimal n in
    let count = digits_prefix w rest (test_from_digits w (decimal_count n small).digits) none in
    ap (λ (k : ℕ). coordinate_of_parts negative (count_of_numeral (take k (w ++ rest))) (drop k (w ++ rest))) count
    ∙ (λ i. coordinate_of_parts negative (count_of_numeral (take_at w rest (length w) refl i)) (drop_at w rest (length w) refl i))
    ∙ ap (λ (found : Option ℕ). coordinate_of_parts negative found rest) (count_again n small)

no_rest : NoDigitFirst []
no_rest byte bytes is = absurd (cc)

point_first : (decimals : List ℕ) → NoDigitFirst (46 ∷ decimals)
point_first decimals byte bytes is = let head : 46 ≡ byte = cc in subst (λ (b : ℕ). is_ascii_digit b ≡ false) head refl

-- what of a coordinate that can stand is needed
record IsRight (c : Coordinate) : Type 0 where
  small : leb (unsigned_abs c.millionths) most_millionths ≡ true
  whole : c.whole ≡ true → unsigned_abs c.millionths % 1000000 ≡ 0

right_parts : (c : Coordinate) → is_coordinate c ≡ true → IsRight c
unfolding is_coordinate
right_parts c right =
    let n = unsigned_abs c.millionths in
    let both = and_parts (leb n most_millionths) (not c.whole || eqb (n % 1000000) 0) right in
    record { small = both.0; whole = λ is. eqb-true (n % 1000000) 0 (behind_not c.whole (eqb (n % 1000000) 0) both.1 is) }
  where
    behind_not : (b c : Bool) → (not b || c) ≡ true → b ≡ true → c ≡ true
    behind_not true c either is = either
    behind_not false c either is = absurd cc

signed_made : (negative whole : Bool) (n m : ℕ) → m ≡ n → leb n most_millionths ≡ true → (not negative || ltb 0 n) ≡ true → signed_coordinate negative whole m ≡ Some (record { millionths = with_sign negative n; whole = whole })
signed_made negative whole n m same small some =
    ap (signed_coordinate negative whole) same
    ∙ ap (λ (b : Bool). cond b (Some (record { millionths = with_sign negative n; whole = whole })) None) (and_from (leb n most_millionths) (not negative || ltb 0 n) small some)

whole_part_small : (n : ℕ) → leb n most_millionths ≡ true → n / 1000000 < 10 ^ 18
whole_part_small n small = let e = leb-true n most_millionths small in omega (arith, e)

numeral_again : (z : ℤ) (whole : Bool) → IsRight (record { millionths = z; whole = whole }) → coordinate_of_numeral (coordinate_numeral (record { millionths = z; whole = whole })) ≡ Some (record { millionths = with_sign (is_negative z) (unsigned_abs z); whole = whole })
unfolding coordinate_numeral
numeral_again z true right =
    let n = unsigned_abs z in
    let q = n / 1000000 in
    let negative = is_negative z in
    let small = whole_part_small n right.small in
    let some = some_behind_sign z in
    let sign = signed negative n some in
    let is = decimal_count q small in
    let value : q * 1000000 ≡ n = let e = right.whole refl in omega (arith, e) in
    let alone = sym (append-nil (decimal q)) in
    (λ i. coordinate_of_numeral (sign.shown i ++ alone i))
    ∙ signed_again negative (decimal q) [] is.digits is.some
    ∙ unsigned_again negative q [] small no_rest
    ∙ signed_made negative true n (q * 1000000) value right.small some
numeral_again z false right =
    let n = unsigned_abs z in
    let q = n / 1000000 in
    let r = n % 1000000 in
    let negative = is_negative z in
    let small = whole_part_small n right.small in
    let some = some_behind_sign z in
    let sign = signed negative n some in
    let is = decimal_count q small in
    let ds = last_digits 6 r in
    let spelled : digits_value 10 ds ≡ r = last_digits-value 6 r (omega arith) in
    let value : q * 1000000 + digits_value 10 ds ≡ n = omega (arith, spelled) in
    let test : (eqb (length ds) 6 && list_all is_ascii_digit ds) ≡ true = and_from (eqb (length ds) 6) (list_all is_ascii_digit ds) (eq-eqb (length ds) 6 (last_digits-length 6 r)) (test_from_digits ds (last_digits-digits 6 r)) in
    (λ i. coordinate_of_numeral (sign.shown i ++ (decimal q ++ (46 ∷ ds))))
    ∙ signed_again negative (decimal q) (46 ∷ ds) is.digits is.some
    ∙ unsigned_again negative q (46 ∷ ds) small (point_first ds)
    ∙ ap (λ (b : Bool). cond b (signed_coordinate negative false (q * 1000000 + digits_value 10 ds)) None) test
    ∙ signed_made negative false n (q * 1000000 + digits_value 10 ds) value right.small some

coordinate_again : (c : Coordinate) → is_coordinate c ≡ true → coordinate_of_numeral (coordinate_numeral c) ≡ Some c
coordinate_again c right = numeral_again c.millionths c.whole (right_parts c right) ∙ ap (λ (z : ℤ). Some (record { millionths = z; whole = c.whole })) (own_sign c.millionths)

-- ---- the bytes of a coordinate

sign_number_bytes : (negative : Bool) (n : ℕ) → list_all is_number_byte (shown_sign negative n) ≡ true
sign_number_bytes false n = refl
sign_number_bytes true zero = refl
sign_number_bytes true (suc n) = refl

both_bytes : (xs ys : List ℕ) → list_all is_number_byte xs ≡ true → list_all is_number_byte ys ≡ true → list_all is_number_byte (xs ++ ys) ≡ true
both_bytes xs ys first second = list_all-append is_number_byte xs ys ∙ and_from (list_all is_number_byte xs) (list_all is_number_byte ys) first second

numeral_bytes : (z : ℤ) (whole : Bool) → IsRight (record { millionths = z; whole = whole }) → list_all is_number_byte (coordinate_numeral (record { millionths = z; whole = whole })) ≡ true
unfolding coordinate_numeral
numeral_bytes z true right =
    let n = unsigned_abs z in
    both_bytes (shown_sign (is_negative z) n) (decimal (n / 1000000)) (sign_number_bytes (is_negative z) n) (decimal_bytes (n / 1000000) (whole_part_small n right.small))
numeral_bytes z false right =
    let n = unsigned_abs z in
    let ds = last_digits 6 (n % 1000000) in
    both_bytes (shown_sign (is_negative z) n) (decimal (n / 1000000) ++ (46 ∷ ds)) (sign_number_bytes (is_negative z) n)
    (both_bytes (decimal (n / 1000000)) (46 ∷ ds) (decimal_bytes (n / 1000000) (whole_part_small n right.small))
    (digits_bytes ds (test_from_digits ds (last_digits-digits 6 (n % 1000000)))))

pub coordinates_spelling : IsSpelling coordinates
coordinates_spelling =
    record {
      found = coordinate_found;
      again = coordinate_again;
      bytes = λ c right. numeral_bytes c.millionths c.whole (right_parts c right);
    }
