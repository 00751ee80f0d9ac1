-- A text spells one number at most: its digits end where no digit stands, and its sign is no digit.
use Rattle.std.proofs.Common.{◌≡◌, ◌<◌, ℕ, suc, zero, List, [], ◌∷◌, ◌++◌, length, get_or, take, drop, refl, sym, ◌∙◌, ap, subst, inl, inr, arith}
use Rattle.std.specs.Char.{digit_value}
use Rattle.std.specs.List.{All}
use Rattle.std.specs.Str.Parse.{AllDigits}
use Rattle.std.proofs.lemmas.Str.Parse.{digit_from_value}
use Rattle.qm_numerals.specs.Number.{Sign, missing, plus, minus, sign_text, IsTail, IsUnsigned, Number, SpellsNumber}

pub digit_within : (ds : List ℕ) (i : ℕ) → AllDigits 10 ds → i < length ds → digit_value (get_or ds i 0) < 10
digit_within [] i h l = absurd (omega arith)
digit_within (x ∷ ds) zero h l = h.0
digit_within (x ∷ ds) (suc i) h l = digit_within ds i h.1 (omega arith)

pub first_digits : (n : ℕ) (ds : List ℕ) → AllDigits 10 ds → AllDigits 10 (take n ds)
first_digits zero ds h = tt
first_digits (suc n) [] h = tt
first_digits (suc n) (x ∷ ds) h = (h.0, first_digits n ds h.1)

pub last_digits : (n : ℕ) (ds : List ℕ) → AllDigits 10 ds → AllDigits 10 (drop n ds)
last_digits zero ds h = h
last_digits (suc n) [] h = tt
last_digits (suc n) (x ∷ ds) h = last_digits n ds h.1

pub joined_digits : (n : ℕ) (ds : List ℕ) → AllDigits 10 (take n ds) → AllDigits 10 (drop n ds) → AllDigits 10 ds
joined_digits zero ds h k = k
joined_digits (suc n) [] h k = tt
joined_digits (suc n) (x ∷ ds) h k = (h.0, joined_digits n ds h.1 k)

-- zeros are digits
pub zeros_digits : (ds : List ℕ) → All (λ byte. byte ≡ 48) ds → AllDigits 10 ds
zeros_digits [] h = tt
zeros_digits (x ∷ ds) h =
    let first : x ≡ 48 = h 0 0 (omega arith) in
    let digit : digit_value x < 10 = subst (λ (y : ℕ). digit_value y < 10) (sym first) (omega arith) in
    let rest : All (λ (byte : ℕ). byte ≡ 48) ds = λ k d l. h (suc k) d (omega arith) in
    (digit, zeros_digits ds rest)

-- the text begins with no digit
abbrev pub NoDigitAhead : List ℕ → Type 0
NoDigitAhead text = (byte : ℕ) (bytes : List ℕ) → text ≡ byte ∷ bytes → digit_value byte < 10 → ⊥

-- the text begins with no sign
abbrev pub NoSignAhead : List ℕ → Type 0
NoSignAhead text = (get_or text 0 0 ≡ 43 → ⊥) × (get_or text 0 0 ≡ 45 → ⊥)

pub same_digits : (a b s t : List ℕ) → AllDigits 10 a → AllDigits 10 b → NoDigitAhead s → NoDigitAhead t → a ++ s ≡ b ++ t → (a ≡ b) × (s ≡ t)
same_digits [] [] s t _ _ _ _ e = (refl, e)
same_digits [] (y ∷ b) s t _ d n _ e = absurd (n y (b ++ t) e d.0)
same_digits (x ∷ a) [] s t d _ _ n e = absurd (n x (a ++ s) (sym e) d.0)
same_digits (x ∷ a) (y ∷ b) s t d f m n e =
    let tails : a ++ s ≡ b ++ t = cc in
    let heads : x ≡ y = cc in
    let rest = same_digits a b s t d.1 f.1 m n tails in
    let same : a ≡ b = rest.0 in
    (cc, rest.1)

point_is_no_digit : (byte : ℕ) → byte ≡ 46 → digit_value byte < 10 → ⊥
point_is_no_digit byte e digit = let h : digit_value 46 < 10 = subst (λ (b : ℕ). digit_value b < 10) e digit in omega arith

pub no_digit_tail : (tail decimals : List ℕ) → IsTail tail decimals → NoDigitAhead tail
no_digit_tail tail decimals h byte bytes e digit = elim h [
  | inl p ↦ point_is_no_digit byte (let q : byte ≡ 46 = cc in q) digit
  | inr p ↦ let q = p.0 in cc
]

pub same_decimals : (tail d e : List ℕ) → IsTail tail d → IsTail tail e → d ≡ e
same_decimals tail d e (inl p) (inl q) = cc
same_decimals tail d e (inl p) (inr q) = let r = q.0 in cc
same_decimals tail d e (inr p) (inl q) = let r = p.0 in cc
same_decimals tail d e (inr p) (inr q) = let r = p.1 in let s = q.1 in cc

pub same_unsigned : (text w d v e : List ℕ) → IsUnsigned text w d → IsUnsigned text v e → (w ≡ v) × (d ≡ e)
same_unsigned text w d v e h k =
    let both = same_digits w v h.tail k.tail h.whole_digits k.whole_digits (no_digit_tail h.tail d h.ended) (no_digit_tail k.tail e k.ended) (sym h.spelled ∙ k.spelled) in
    let tails : h.tail ≡ k.tail = both.1 in
    (both.0, same_decimals k.tail d e (subst (λ (t : List ℕ). IsTail t d) tails h.ended) k.ended)

no_sign_digit : (x : ℕ) (xs text : List ℕ) → text ≡ x ∷ xs → digit_value x < 10 → NoSignAhead text
no_sign_digit x xs text e digit =
    let r = digit_from_value x digit in
    let first : get_or text 0 0 ≡ x = ap (λ (t : List ℕ). get_or t 0 0) e in
    (λ h. omega arith, λ h. omega arith)

pub no_sign_unsigned : (text whole decimals : List ℕ) → IsUnsigned text whole decimals → NoSignAhead text
no_sign_unsigned text [] decimals u = elim u.ended [
  | inl p ↦ (let first : get_or text 0 0 ≡ 46 = ap (λ (t : List ℕ). get_or t 0 0) (u.spelled ∙ p) in (λ h. omega arith, λ h. omega arith))
  | inr p ↦ (let first : get_or text 0 0 ≡ 0 = ap (λ (t : List ℕ). get_or t 0 0) (u.spelled ∙ p.0) in (λ h. omega arith, λ h. omega arith))
]
no_sign_unsigned text (x ∷ whole) decimals u = no_sign_digit x (whole ++ u.tail) text u.spelled u.whole_digits.0

apart : (n : ℕ) → n ≡ 43 → n ≡ 45 → ⊥
apart n e f = omega arith

-- a sign and what stands behind it are told by the text, where a missing sign has none behind it
pub same_sign : (s r : Sign) (u v : List ℕ) → (s ≡ missing → NoSignAhead u) → (r ≡ missing → NoSignAhead v) → sign_text s ++ u ≡ sign_text r ++ v → (s ≡ r) × (u ≡ v)
same_sign missing missing u v h k e = (refl, e)
same_sign missing plus u v h k e = absurd ((h refl).0 (ap (λ (t : List ℕ). get_or t 0 0) e))
same_sign missing minus u v h k e = absurd ((h refl).1 (ap (λ (t : List ℕ). get_or t 0 0) e))
same_sign plus missing u v h k e = absurd ((k refl).0 (ap (λ (t : List ℕ). get_or t 0 0) (sym e)))
same_sign plus plus u v h k e = (refl, cc)
same_sign plus minus u v h k e = absurd (apart 43 refl (ap (λ (t : List ℕ). get_or t 0 0) e))
same_sign minus missing u v h k e = absurd ((k refl).1 (ap (λ (t : List ℕ). get_or t 0 0) (sym e)))
same_sign minus plus u v h k e = absurd (apart 43 refl (ap (λ (t : List ℕ). get_or t 0 0) (sym e)))
same_sign minus minus u v h k e = (refl, cc)

abbrev pub number_of : Sign → List ℕ → List ℕ → Number
number_of sign whole decimals = record { sign = sign; whole = whole; decimals = decimals }

same_parts : (a b : Number) → a.sign ≡ b.sign → a.whole ≡ b.whole → a.decimals ≡ b.decimals → a ≡ b
same_parts a b p q r =
    ap (λ (s : Sign). number_of s a.whole a.decimals) p
    ∙ (ap (λ (w : List ℕ). number_of b.sign w a.decimals) q ∙ ap (λ (d : List ℕ). number_of b.sign b.whole d) r)

pub same_number : (text : List ℕ) (a b : Number) → SpellsNumber text a → SpellsNumber text b → a ≡ b
same_number text a b h k =
    let signs = same_sign a.sign b.sign h.unsigned k.unsigned (λ _. no_sign_unsigned h.unsigned a.whole a.decimals h.digits) (λ _. no_sign_unsigned k.unsigned b.whole b.decimals k.digits) (sym h.signed_text ∙ k.signed_text) in
    let u : h.unsigned ≡ k.unsigned = signs.1 in
    let digits = same_unsigned k.unsigned a.whole a.decimals b.whole b.decimals (subst (λ (t : List ℕ). IsUnsigned t a.whole a.decimals) u h.digits) k.digits in
    same_parts a b signs.0 digits.0 digits.1
