-- The last digits of a number, and the number that so many digits spell.
use Rattle.std.proofs.Common.{◌≡◌, ◌<◌, ◌≤◌, ℕ, zero, suc, ◌+◌, ◌*◌, ◌/◌, ◌%◌, ◌^◌, List, [], ◌∷◌, ◌++◌, length, take, get_or, refl, sym, ap, ◌∙◌, arith, pow-suc}
use Rattle.std.specs.Char.{digit_value}
use Rattle.std.specs.Str.Parse.{AllDigits, digits_value}
use Rattle.std.proofs.lemmas.Grind.{take_at_read}
use Rattle.std.proofs.lemmas.Int.Digits.{digits_value_more, digits_value_push, digits_push}
use Rattle.std.proofs.lemmas.List.{length-append, take_all}
use Rattle.std.proofs.lemmas.Str.{digit_value_digit}
use Rattle.std.proofs.lemmas.Str.Parse.{digit_from_value}
use Rattle.qm_numerals.specs.Printed.{last_digits}
use Rattle.qm_numerals.proofs.Texts.{digit_within}

digit_byte : (c : ℕ) → digit_value c < 10 → 48 + digit_value c ≡ c
digit_byte c small = let e = digit_value_digit c (digit_from_value c small) in omega (arith, e)

digit_of_byte : (d : ℕ) → d < 10 → digit_value (48 + d) ≡ d
digit_of_byte d small = let e = digit_value_digit (48 + d) (omega (arith, small), omega (arith, small)) in omega (arith, e)

parted : (n v d : ℕ) → n ≡ v * 10 + d → d < 10 → (n / 10 ≡ v) × (n % 10 ≡ d)
parted n v d is small = (omega (arith, is, small), omega (arith, is, small))

last_of_taken : (i : ℕ) (ds : List ℕ) → AllDigits 10 ds → i ≤ length ds → last_digits i (digits_value 10 (take i ds)) ≡ take i ds
last_of_taken zero ds digits within = refl
last_of_taken (suc i) ds digits within =
    let there : i < length ds = omega (arith, within) in
    let one_more : i + 1 ≡ suc i = omega arith in
    let d = digit_value (get_or ds i 0) in
    let small : d < 10 = digit_within ds i digits there in
    let v = digits_value 10 (take i ds) in
    let value : digits_value 10 (take (suc i) ds) ≡ v * 10 + d = ap (λ (k : ℕ). digits_value 10 (take k ds)) (sym one_more) ∙ digits_value_more 10 ds i there in
    let parts = parted (digits_value 10 (take (suc i) ds)) v d value small in
    let taken : take (suc i) ds ≡ take i ds ++ (get_or ds i 0 ∷ []) = ap (λ (k : ℕ). take k ds) (sym one_more) ∙ (take_at_read ds i 0 there).1 in
    ap (λ (n : ℕ). last_digits i n ++ ((48 + digits_value 10 (take (suc i) ds) % 10) ∷ [])) parts.0
    ∙ ap (λ (n : ℕ). last_digits i v ++ ((48 + n) ∷ [])) parts.1
    ∙ ap (λ (c : ℕ). last_digits i v ++ (c ∷ [])) (digit_byte (get_or ds i 0) small)
    ∙ ap (λ (xs : List ℕ). xs ++ (get_or ds i 0 ∷ [])) (last_of_taken i ds digits (omega (arith, within)))
    ∙ sym taken

-- so many digits are the last ones of the number that they spell
pub last_of_value : (k : ℕ) (ds : List ℕ) → AllDigits 10 ds → length ds ≡ k → last_digits k (digits_value 10 ds) ≡ ds
last_of_value k ds digits long =
    let all : take k ds ≡ ds = take_all k ds (omega (arith, long)) in
    ap (λ (xs : List ℕ). last_digits k (digits_value 10 xs)) (sym all) ∙ last_of_taken k ds digits (omega (arith, long)) ∙ all

pub last_digits-digits : (k n : ℕ) → AllDigits 10 (last_digits k n)
last_digits-digits zero n = tt
last_digits-digits (suc k) n =
    let small : n % 10 < 10 = omega arith in
    digits_push 10 (last_digits k (n / 10)) (48 + n % 10) (last_digits-digits k (n / 10)) (omega (arith, digit_of_byte (n % 10) small))

pub last_digits-length : (k n : ℕ) → length (last_digits k n) ≡ k
last_digits-length zero n = refl
last_digits-length (suc k) n = length-append (last_digits k (n / 10)) ((48 + n % 10) ∷ []) ∙ let e = last_digits-length k (n / 10) in omega (arith, e)

-- a number below that power of ten is spelled by its last digits
pub last_digits-value : (k n : ℕ) → n < 10 ^ k → digits_value 10 (last_digits k n) ≡ n
last_digits-value zero n small = omega (arith, small)
last_digits-value (suc k) n small =
    let below : n < 10 ^ k * 10 = rw (sym (pow-suc 10 k)) small in
    let rest = last_digits-value k (n / 10) (omega (arith, below)) in
    let digit = digit_of_byte (n % 10) (omega arith) in
    digits_value_push 10 (last_digits k (n / 10)) (48 + n % 10) ∙ omega (arith, rest, digit)
