-- Steps of printing digits from the last to the first, and the nearest millionths.
use Rattle.std.proofs.Common.{◌≡◌, ◌<◌, ◌≤◌, ℕ, suc, ◌+◌, ◌-◌, ◌/◌, ◌%◌, ◌^◌, List, [], ◌∷◌, ◌++◌, length, sym, ◌∙◌, ap, arith, append_assoc}
use Rattle.std.specs.Fmt.{decimal}
use Rattle.std.proofs.lemmas.Fmt.{decimal_digit, decimal_step_wide, length-decimal-le_wide}
use Rattle.std.proofs.lemmas.List.{length-append}
use Rattle.qm_numerals.specs.Printed.{last_digits}

pub six_step : (i n : ℕ) (s : List ℕ) → i < 6 → last_digits (6 - i) n ++ s ≡ last_digits (6 - (i + 1)) (n / 10) ++ ((48 + n % 10) ∷ s)
six_step i n s h =
    let count : 6 - i ≡ suc (6 - (i + 1)) = omega arith in
    ap (λ (k : ℕ). last_digits k n ++ s) count ∙ append_assoc (last_digits (6 - (i + 1)) (n / 10)) ((48 + n % 10) ∷ []) s

thirty_one : (n : ℕ) → n < 10 ^ 31 → n < 10 ^ 64
thirty_one n h = omega arith

pub decimal_put : (n : ℕ) (s : List ℕ) → 10 ≤ n → n < 10 ^ 31 → decimal n ++ s ≡ decimal (n / 10) ++ ((48 + n % 10) ∷ s)
decimal_put n s low high = ap (λ (t : List ℕ). t ++ s) (decimal_step_wide n low (thirty_one n high)) ∙ append_assoc (decimal (n / 10)) ((48 + n % 10) ∷ []) s

pub decimal_last : (n : ℕ) (s : List ℕ) → n < 10 → decimal n ++ s ≡ (48 + n) ∷ s
decimal_last n s h = ap (λ (t : List ℕ). t ++ s) (decimal_digit n h)

pub decimal_short : (n : ℕ) → n < 10 ^ 31 → length (decimal n) ≤ 31
decimal_short n h = length-decimal-le_wide 31 n (omega arith) h (thirty_one n h)

-- what is left to print has room
pub room_left : (n m byte : ℕ) (s t u : List ℕ) → m < 10 ^ 31 → length u ≤ 9 → decimal n ++ s ≡ decimal m ++ u → decimal n ++ s ≡ t ++ (byte ∷ s) → length s < 40
room_left n m byte s t u small short e f =
    let all : length (decimal m ++ u) ≡ length (t ++ (byte ∷ s)) = ap length (sym e ∙ f) in
    let some = decimal_short m small in
    omega (arith, length-append (decimal m) u, length-append t (byte ∷ s))
