-- The number that digits write, split at a place, and in units of a place.
use Rattle.std.proofs.Common.{◌≡◌, ◌<◌, ◌≤◌, ℕ, suc, zero, ◌+◌, ◌-◌, ◌*◌, ◌^◌, List, [], ◌∷◌, ◌++◌, length, take, drop, refl, sym, ◌∙◌, ap, subst, inl, inr, arith, pow-suc, mul-lt-mul_of_pos_right}
use Rattle.std.specs.Char.{digit_value}
use Rattle.std.specs.List.{All}
use Rattle.std.specs.Str.Parse.{AllDigits, digits_value, digits_value_after}
use Rattle.qm_numerals.specs.Answer.{IsFine}
use Rattle.qm_numerals.specs.Computed.{in_units}
use Rattle.qm_numerals.proofs.Scaling.{order}
use Rattle.qm_numerals.proofs.Texts.{first_digits}
use Rattle.std.proofs.lemmas.Int.Digits.{digits_value-lt}
use Rattle.std.proofs.lemmas.List.{take-append-drop, take_all, length-take, length-drop}
use Rattle.std.proofs.lemmas.Nat.{pow-add}
use Rattle.std.proofs.Math.Nat.{pow-le-pow_right}

value_after-append : (n : ℕ) (w d : List ℕ) → digits_value_after 10 n (w ++ d) ≡ digits_value_after 10 (digits_value_after 10 n w) d
value_after-append n [] d = refl
value_after-append n (c ∷ w) d = value_after-append (n * 10 + digit_value c) w d

-- the step of `value_after`, over plain numbers
step : (n c p q r s : ℕ) → r ≡ (n * 10 + c) * p + q → s ≡ (0 * 10 + c) * p + q → r ≡ n * (p * 10) + s
step n c p q r s e f = omega arith

value_after : (n : ℕ) (ds : List ℕ) → digits_value_after 10 n ds ≡ n * 10 ^ length ds + digits_value 10 ds
value_after n [] = omega arith
value_after n (c ∷ ds) =
    let e = step n (digit_value c) (10 ^ length ds) (digits_value 10 ds) (digits_value_after 10 (n * 10 + digit_value c) ds) (digits_value_after 10 (0 * 10 + digit_value c) ds) (value_after (n * 10 + digit_value c) ds) (value_after (0 * 10 + digit_value c) ds) in
    rw pow-suc e

pub all_digits_split : (w d : List ℕ) → digits_value 10 (w ++ d) ≡ digits_value 10 w * 10 ^ length d + digits_value 10 d
all_digits_split w d = value_after-append 0 w d ∙ value_after (digits_value 10 w) d

zero_digit : (x : ℕ) → x ≡ 48 → 0 * 10 + digit_value x ≡ 0
zero_digit x e = subst (λ (y : ℕ). 0 * 10 + digit_value y ≡ 0) (sym e) refl

zeros_value : (ds : List ℕ) → All (λ byte. byte ≡ 48) ds → digits_value 10 ds ≡ 0
zeros_value [] h = refl
zeros_value (x ∷ ds) h =
    let first : x ≡ 48 = h 0 0 (omega arith) in
    let rest : All (λ (byte : ℕ). byte ≡ 48) ds = λ k d l. h (suc k) d (omega arith) in
    ap (λ (n : ℕ). digits_value_after 10 n ds) (zero_digit x first) ∙ zeros_value ds rest

-- ten to the sum of two numbers that make a third
power_parts : (i j k : ℕ) → i + j ≡ k → 10 ^ i * 10 ^ j ≡ 10 ^ k
power_parts i j k e = sym (pow-add 10 i j) ∙ ap (λ (n : ℕ). 10 ^ n) e

pub power_positive : (k : ℕ) → 0 < 10 ^ k
power_positive zero = omega arith
power_positive (suc k) = let h = power_positive k in rw pow-suc (omega arith)

few_kept : (d a b c n : ℕ) → a * b ≡ c → n ≡ d * a → d * c ≡ n * b
few_kept d a b c n e f =
    let g : d * (a * b) ≡ d * c = ap (λ (x : ℕ). d * x) e in
    let h : n * b ≡ d * a * b = ap (λ (x : ℕ). x * b) f in
    omega arith

many_kept : (t z a b c d p : ℕ) → a * b ≡ c → z ≡ 0 → d ≡ t * a + z → p ≡ 1 → d * b ≡ t * p * c
many_kept t z a b c d p e f g h = let k : t * (a * b) ≡ t * c = ap (λ (x : ℕ). t * x) e in
    let one : t * p ≡ t = ap (λ (x : ℕ). t * x) h ∙ (let m : t * 1 ≡ t = omega arith in m) in
    let all : t * p * c ≡ t * c = ap (λ (x : ℕ). x * c) one in
    let sum : d ≡ t * a = omega arith in
    let left : d * b ≡ t * a * b = ap (λ (x : ℕ). x * b) sum in
    omega arith

-- fine decimals are exactly as many units
pub fine_units : (ds : List ℕ) (p : ℕ) → IsFine p ds → digits_value 10 ds * 10 ^ p ≡ in_units ds p * 10 ^ length ds
fine_units ds p fine = elim (order (length ds) p) [
  | inl short ↦ few_kept (digits_value 10 ds) (10 ^ (p - length ds)) (10 ^ length ds) (10 ^ p) (in_units ds p)
      (power_parts (p - length ds) (length ds) p (omega arith))
      (ap (λ (t : List ℕ). digits_value 10 t * 10 ^ (p - length ds)) (take_all p ds short))
  | inr long ↦
      let cut = all_digits_split (take p ds) (drop p ds) in
      let whole : digits_value 10 (take p ds ++ drop p ds) ≡ digits_value 10 ds = ap (digits_value 10) (take-append-drop p ds) in
      many_kept (digits_value 10 (take p ds)) (digits_value 10 (drop p ds)) (10 ^ length (drop p ds)) (10 ^ p) (10 ^ length ds) (digits_value 10 ds) (10 ^ (p - length ds))
      (power_parts (length (drop p ds)) p (length ds) (omega (arith, length-drop p ds)))
      (zeros_value (drop p ds) fine)
      (sym whole ∙ cut)
      (let none : p - length ds ≡ 0 = omega arith in ap (λ (n : ℕ). 10 ^ n) none)
]

-- they are less than one whole
pub units_below : (ds : List ℕ) (p : ℕ) → AllDigits 10 ds → in_units ds p < 10 ^ p
units_below ds p h =
    let kept = digits_value-lt 10 (take p ds) (first_digits p ds h) in
    let parts = power_parts (length (take p ds)) (p - length ds) p (omega (arith, length-take p ds)) in
    let scaled = mul-lt-mul_of_pos_right kept (power_positive (p - length ds)) in
    omega arith

pub unit_at_most : (p : ℕ) → p ≤ 6 → 10 ^ p ≤ 1000000
unit_at_most p h = let power : 10 ^ p ≤ 10 ^ 6 = pow-le-pow_right (let ten : 0 < 10 = omega arith in ten) h in omega arith

-- the value of at most six digits
pub six_digits : (ds : List ℕ) → AllDigits 10 ds → length ds ≤ 6 → digits_value 10 ds < 1000000
six_digits ds h few =
    let below = digits_value-lt 10 ds h in
    let power = unit_at_most (length ds) few in
    omega arith
