-- The sign put before an unsigned number, and that a text has one answer at most.
use Rattle.std.proofs.Common.{◌≡◌, ◌<◌, ◌≤◌, ◌*◌, ◌^◌, ℕ, ℤ, pos, neg_ℤ, ◌*ℤ◌, Bool, if◌then◌else◌, List, length, drop, refl, sym, ◌∙◌, ap, subst, arith, Ok, Err, Result}
use Rattle.std.specs.List.{All, Any}
use Rattle.qm_numerals.specs.declared.fraction.Fraction.{Fraction}
use Rattle.qm_numerals.specs.declared.fraction.NumberFault.{NumberFault}
use Rattle.qm_numerals.specs.declared.fraction.NumberFault.TheVariants.{Form, TooFine, TooLarge}
use Rattle.qm_numerals.specs.Number.{IsUnsigned, Number, SpellsNumber, all_digits, signed_by}
use Rattle.qm_numerals.specs.Answer.{IsAnswer, IsValue, IsFine, IsTooFine, limit}
use Rattle.qm_numerals.specs.inner.Parts.{IsSignSplit, IsMagnitude, IsMagnitudeAnswer}
use Rattle.qm_numerals.proofs.Scaling.{signed_times, with_sign_is, cancel_times}
use Rattle.qm_numerals.proofs.Texts.{number_of, same_number, same_sign, no_sign_unsigned}
use Rattle.qm_numerals.proofs.Values.{power_positive}

spells_signed : (text : List ℕ) (negative : Bool) (u w d : List ℕ) (s : IsSignSplit text negative u) → IsUnsigned u w d → SpellsNumber text (number_of s.sign w d)
spells_signed text negative u w d s h = record { unsigned = u; signed_text = s.spelled; digits = h }

-- a number behind the sign is the unsigned text
unsigned_behind : (text : List ℕ) (negative : Bool) (u : List ℕ) → IsSignSplit text negative u → (number : Number) → SpellsNumber text number → IsUnsigned u number.whole number.decimals
unsigned_behind text negative u s number h =
    let both = same_sign s.sign number.sign u h.unsigned s.no_more (λ _. no_sign_unsigned h.unsigned number.whole number.decimals h.digits) (sym s.spelled ∙ h.signed_text) in
    let same : u ≡ h.unsigned = both.1 in
    subst (λ (t : List ℕ). IsUnsigned t number.whole number.decimals) (sym same) h.digits

-- a fault of the unsigned number is one of the number
pub signed_fault : (fault : NumberFault) (text : List ℕ) (negative : Bool) (u : List ℕ) (p : ℕ) → IsSignSplit text negative u → IsMagnitudeAnswer u p (Err fault) → IsAnswer text p (Err fault)
signed_fault Form text negative u p s h = λ number spelled. h number.whole number.decimals (unsigned_behind text negative u s number spelled)
signed_fault TooFine text negative u p s h = record {
  number = number_of s.sign h.whole h.decimals;
  spelled = spells_signed text negative u h.whole h.decimals s h.spelled;
  too_fine = h.too_fine;
}
signed_fault TooLarge text negative u p s h = record {
  number = number_of s.sign h.whole h.decimals;
  spelled = spells_signed text negative u h.whole h.decimals s h.spelled;
  fine = h.fine;
  too_large = h.too_large;
}

-- the magnitude with the sign is the value
pub signed_value : (text : List ℕ) (negative : Bool) (u : List ℕ) (p m : ℕ) (fraction : Fraction) → IsSignSplit text negative u → IsMagnitude u p m → fraction.numerator ≡ (if negative then neg_ℤ (pos m) else pos m) → fraction.places ≡ p → IsValue text p fraction
signed_value text negative u p m fraction s h n e =
    let numerator = with_sign_is s.sign negative fraction.numerator m s.negative n in
    record {
      number = number_of s.sign h.whole h.decimals;
      spelled = spells_signed text negative u h.whole h.decimals s h.spelled;
      fine = h.fine;
      small = h.small;
      places_kept = e;
      value = ap (λ (z : ℤ). z *ℤ pos (10 ^ length h.decimals)) numerator
          ∙ signed_times s.sign m (10 ^ length h.decimals) (all_digits h.whole h.decimals * 10 ^ p) h.value;
    }

-- ---- one answer at most

fine_apart : (xs : List ℕ) → All (λ byte. byte ≡ 48) xs → Any (λ byte. byte ≡ 48 → ⊥) xs → ⊥
fine_apart xs all any = any.4 (sym any.3 ∙ all any.0 any.1 any.2)

same_fields : (f g : Fraction) → f.numerator ≡ g.numerator → f.places ≡ g.places → f ≡ g
same_fields f g n p =
    let make : ℤ → ℕ → Fraction = λ z k. record { numerator = z; places = k } in
    ap (λ (z : ℤ). make z f.places) n ∙ ap (λ (k : ℕ). make g.numerator k) p

same_value : (text : List ℕ) (p : ℕ) (f g : Fraction) → IsValue text p f → IsValue text p g → f ≡ g
same_value text p f g a b =
    let same = same_number text a.number b.number a.spelled b.spelled in
    let value = subst (λ (n : Number). f.numerator *ℤ pos (10 ^ length n.decimals) ≡ signed_by n.sign (all_digits n.whole n.decimals * 10 ^ p)) same a.value in
    same_fields f g
    (cancel_times f.numerator g.numerator (10 ^ length b.number.decimals) (power_positive (length b.number.decimals)) (value ∙ sym b.value))
    (a.places_kept ∙ sym b.places_kept)

-- the number of one spelling is fine, and of another too fine
fine_once : (text : List ℕ) (p : ℕ) (a b : Number) → SpellsNumber text a → SpellsNumber text b → IsFine p a.decimals → IsTooFine p b.decimals → ⊥
fine_once text p a b h k fine too_fine =
    let same = same_number text a b h k in
    fine_apart (drop p b.decimals) (subst (λ (n : Number). IsFine p n.decimals) same fine) too_fine

large_once : (text : List ℕ) (a b : Number) → SpellsNumber text a → SpellsNumber text b → all_digits a.whole a.decimals ≤ limit * 10 ^ length a.decimals → limit * 10 ^ length b.decimals < all_digits b.whole b.decimals → ⊥
large_once text a b h k small large =
    let same = same_number text a b h k in
    let moved = subst (λ (n : Number). all_digits n.whole n.decimals ≤ limit * 10 ^ length n.decimals) same small in
    omega arith

pub same_answer : (text : List ℕ) (p : ℕ) (r s : Result Fraction NumberFault) → IsAnswer text p r → IsAnswer text p s → r ≡ s
same_answer text p (Ok f) (Ok g) a b = ap (λ (h : Fraction). Ok h) (same_value text p f g a b)
same_answer text p (Ok f) (Err Form) a b = absurd (b a.number a.spelled)
same_answer text p (Ok f) (Err TooFine) a b = absurd (fine_once text p a.number b.number a.spelled b.spelled a.fine b.too_fine)
same_answer text p (Ok f) (Err TooLarge) a b = absurd (large_once text a.number b.number a.spelled b.spelled a.small b.too_large)
same_answer text p (Err Form) (Ok g) a b = absurd (a b.number b.spelled)
same_answer text p (Err Form) (Err Form) a b = refl
same_answer text p (Err Form) (Err TooFine) a b = absurd (a b.number b.spelled)
same_answer text p (Err Form) (Err TooLarge) a b = absurd (a b.number b.spelled)
same_answer text p (Err TooFine) (Ok g) a b = absurd (fine_once text p b.number a.number b.spelled a.spelled b.fine a.too_fine)
same_answer text p (Err TooFine) (Err Form) a b = absurd (b a.number a.spelled)
same_answer text p (Err TooFine) (Err TooFine) a b = refl
same_answer text p (Err TooFine) (Err TooLarge) a b = absurd (fine_once text p b.number a.number b.spelled a.spelled b.fine a.too_fine)
same_answer text p (Err TooLarge) (Ok g) a b = absurd (large_once text b.number a.number b.spelled a.spelled b.small a.too_large)
same_answer text p (Err TooLarge) (Err Form) a b = absurd (b a.number a.spelled)
same_answer text p (Err TooLarge) (Err TooFine) a b = absurd (fine_once text p a.number b.number a.spelled b.spelled a.fine b.too_fine)
same_answer text p (Err TooLarge) (Err TooLarge) a b = refl
