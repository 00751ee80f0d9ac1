-- Texts with commas.
use Rattle.std.proofs.Common.{◌≡◌, ◌≢◌, ◌∙◌, ◌<◌, ◌+◌, ◌^◌, ◌==◌, ℕ, Bool, cond, true, false, not, suc, refl, sym, ap, ap₂, subst, arith, List, [], ◌∷◌, ◌++◌, length, take, drop, ⊎_elim}
use Rattle.std.specs.Char.{digit_value}
use Rattle.std.specs.List.{position_or_len}
use Rattle.std.specs.Fmt.{decimal}
use Rattle.std.specs.Str.Parse.{AllDigits, IsNumeral}
use Rattle.std.proofs.lemmas.Bool.Decides.{Decides-eqb}
use Rattle.std.proofs.lemmas.Fmt.{decimal_is_IsNumeral}
use Rattle.qm_numerals.specs.Number.{Number, Sign, SpellsNumber, IsTail, missing, plus, minus, sign_text}
use Rattle.qm_commands.specs.FileNames.{IsFileName}
use Rattle.qm_words.specs.inner.PlacesRead.{HasNoComma, IsCommaSplit}

abbrev is_comma : ℕ → Bool
is_comma byte = byte == 44

-- what stands before a place, and behind it
abbrev SplitsAt : List ℕ → ℕ → ℕ → Type 0
SplitsAt text k m = (text ≡ take k text ++ (44 ∷ drop m text)) × HasNoComma (take k text)

not_comma : (byte : ℕ) → (byte == 44) ≡ false → byte ≢ 44
not_comma byte off is = let clash : false ≡ true = sym off ∙ (Decides-eqb byte 44).1 is in absurd cc

splits_here : (text : List ℕ) → position_or_len is_comma text < length text → SplitsAt text (position_or_len is_comma text) (position_or_len is_comma text + 1)
splits_here [] inside = absurd (omega arith)
splits_here (byte ∷ bytes) inside = by (byte == 44) refl inside (splits_here bytes)
  where
    n : ℕ
    n = position_or_len is_comma bytes

    by : (b : Bool) → (byte == 44) ≡ b → cond (not b) (1 + position_or_len is_comma bytes) 0 < length (byte ∷ bytes)
        → (position_or_len is_comma bytes < length bytes → SplitsAt bytes (position_or_len is_comma bytes) (position_or_len is_comma bytes + 1))
        → SplitsAt (byte ∷ bytes) (cond (not b) (1 + position_or_len is_comma bytes) 0) (cond (not b) (1 + position_or_len is_comma bytes) 0 + 1)
    by true is below rest = (ap (λ (x : ℕ). x ∷ bytes) ((Decides-eqb byte 44).0 is), tt)
    by false is below rest =
        let p = position_or_len is_comma bytes in
        let more = rest (omega (arith, below)) in
        let at : SplitsAt (byte ∷ bytes) (suc p) (suc (p + 1)) = (ap (λ (xs : List ℕ). byte ∷ xs) more.0, (not_comma byte is, more.1)) in
        let k_is : suc p ≡ 1 + p = omega arith in
        let m_is : suc (p + 1) ≡ 1 + p + 1 = omega arith in
        subst (λ (m : ℕ). SplitsAt (byte ∷ bytes) (1 + p) m) m_is (subst (λ (k : ℕ). SplitsAt (byte ∷ bytes) k (suc (p + 1))) k_is at)

pub split_found : (text first rest : List ℕ) → first ≡ take (position_or_len is_comma text) text → rest ≡ drop (position_or_len is_comma text + 1) text
    → position_or_len is_comma text < length text → IsCommaSplit text first rest
split_found text first rest first_is rest_is inside =
    let splits = splits_here text inside in
    record {
      text_is = splits.0 ∙ ap₂ (λ (f r : List ℕ). f ++ (44 ∷ r)) (sym first_is) (sym rest_is);
      clear = subst HasNoComma (sym first_is) splits.1;
    }

comma_inside : (first rest : List ℕ) → position_or_len is_comma (first ++ (44 ∷ rest)) < length (first ++ (44 ∷ rest))
comma_inside [] rest = omega arith
comma_inside (byte ∷ bytes) rest = by (byte == 44) (comma_inside bytes rest)
  where
    by : (b : Bool) → position_or_len is_comma (bytes ++ (44 ∷ rest)) < length (bytes ++ (44 ∷ rest))
        → cond (not b) (1 + position_or_len is_comma (bytes ++ (44 ∷ rest))) 0 < length (byte ∷ (bytes ++ (44 ∷ rest)))
    by true inside = omega arith
    by false inside = omega (arith, inside)

pub no_split : (text first rest : List ℕ) → position_or_len is_comma text ≡ length text → IsCommaSplit text first rest → ⊥
no_split text first rest none split =
    let inside : position_or_len is_comma text < length text = subst (λ (t : List ℕ). position_or_len is_comma t < length t) (sym split.text_is) (comma_inside first rest) in
    absurd (omega (arith, none, inside))

same_parts : (a b c d : List ℕ) → a ++ (44 ∷ b) ≡ c ++ (44 ∷ d) → HasNoComma a → HasNoComma c → (a ≡ c) × (b ≡ d)
same_parts [] b [] d same clear_a clear_c = let parts : b ≡ d = cc in (refl, parts)
same_parts [] b (y ∷ c) d same clear_a clear_c = let is : y ≡ 44 = cc in absurd (clear_c.0 is)
same_parts (x ∷ a) b [] d same clear_a clear_c = let is : x ≡ 44 = cc in absurd (clear_a.0 is)
same_parts (x ∷ a) b (y ∷ c) d same clear_a clear_c =
    let heads : x ≡ y = cc in
    let tails : a ++ (44 ∷ b) ≡ c ++ (44 ∷ d) = cc in
    let parts = same_parts a b c d tails clear_a.1 clear_c.1 in
    (ap₂ (λ (h : ℕ) (t : List ℕ). h ∷ t) heads parts.0, parts.1)

-- a text has one first comma
pub splits_once : (text a b c d : List ℕ) → IsCommaSplit text a b → IsCommaSplit text c d → (a ≡ c) × (b ≡ d)
splits_once text a b c d one other = same_parts a b c d (sym one.text_is ∙ other.text_is) one.clear other.clear

-- a text without a comma has no first one
clear_of_comma : (first rest : List ℕ) → HasNoComma (first ++ (44 ∷ rest)) → ⊥
clear_of_comma [] rest clear = clear.0 refl
clear_of_comma (byte ∷ first) rest clear = clear_of_comma first rest clear.1

pub clear_text : (text first rest : List ℕ) → HasNoComma text → IsCommaSplit text first rest → ⊥
clear_text text first rest clear split = clear_of_comma first rest (subst HasNoComma split.text_is clear)

-- ---- numbers have none

pub clear_append : (a b : List ℕ) → HasNoComma a → HasNoComma b → HasNoComma (a ++ b)
clear_append [] b clear_a clear_b = clear_b
clear_append (x ∷ a) b clear_a clear_b = (clear_a.0, clear_append a b clear_a.1 clear_b)

pub clear_digits : (digits : List ℕ) → AllDigits 10 digits → HasNoComma digits
clear_digits [] all = tt
clear_digits (digit ∷ digits) all = (
  λ is. let small : digit_value 44 < 10 = subst (λ (b : ℕ). digit_value b < 10) is all.0 in absurd (omega (arith, small)),
  clear_digits digits all.1,
)

pub clear_decimal : (n : ℕ) → n < 2 ^ 64 → HasNoComma (decimal n)
clear_decimal n small = clear_digits (decimal n) (decimal_is_IsNumeral n small).0.1

numeral_is_name : (text : List ℕ) → IsNumeral 10 text → IsFileName text
numeral_is_name [] numeral = absurd (omega (arith, numeral.0))
numeral_is_name (digit ∷ digits) numeral = λ is. let small : digit_value 45 < 10 = subst (λ (b : ℕ). digit_value b < 10) is numeral.1.0 in absurd (omega (arith, small))

pub decimal_is_name : (n : ℕ) → n < 2 ^ 64 → IsFileName (decimal n)
decimal_is_name n small = numeral_is_name (decimal n) (decimal_is_IsNumeral n small).0

clear_sign : (sign : Sign) → HasNoComma (sign_text sign)
clear_sign missing = tt
clear_sign plus = (λ is. absurd (omega (arith, is)), tt)
clear_sign minus = (λ is. absurd (omega (arith, is)), tt)

clear_tail : (tail decimals : List ℕ) → IsTail tail decimals → HasNoComma decimals → HasNoComma tail
clear_tail tail decimals is clear =
    ⊎_elim (λ (point : tail ≡ 46 ∷ decimals). let whole : HasNoComma (46 ∷ decimals) = (λ e. absurd (omega (arith, e)), clear) in subst HasNoComma (sym point) whole)
    (λ (none : (tail ≡ []) × (decimals ≡ [])). subst HasNoComma (sym none.0) tt) is

pub clear_number : (text : List ℕ) (number : Number) → SpellsNumber text number → HasNoComma text
clear_number text number spells =
    let digits = spells.digits in
    let tail = clear_tail digits.tail number.decimals digits.ended (clear_digits number.decimals digits.decimal_digits) in
    let unsigned = subst HasNoComma (sym digits.spelled) (clear_append number.whole digits.tail (clear_digits number.whole digits.whole_digits) tail) in
    subst HasNoComma (sym spells.signed_text) (clear_append (sign_text number.sign) spells.unsigned (clear_sign number.sign) unsigned)
