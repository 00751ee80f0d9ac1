-- What a word spells where a coordinate is due, as it is computed.
use Rattle.std.proofs.Common.{◌≡◌, ℕ, Bool, true, false, ◌&&◌, ℤ, neg_ℤ, int_le, List, Result, Ok, Err, ap, refl, sym, subst, ◌∙◌, arith}
use Rattle.std.proofs.lemmas.Bool.{and_parts, and_from, true_from_ne_false, false_from_ne_true, both_ways}
use Rattle.std.proofs.lemmas.Int.{ints}
use Rattle.qm_numerals.specs.declared.fraction.Fraction.{Fraction}
use Rattle.qm_numerals.specs.declared.fraction.NumberFault.{NumberFault}
use Rattle.qm_numerals.specs.declared.fraction.NumberFault.TheVariants as number
use Rattle.qm_numerals.specs.Answer.{IsNoNumber, IsTooFineText, IsTooLargeText, IsAnswer}
use Rattle.qm_numerals.specs.Computed.{read_at}
use Rattle.qm_numerals.proofs.Computed.{read_at_answers}
use Rattle.qm_numerals.proofs.Uniqueness.{same_answer}
use Rattle.qm_space.specs.Point.{IsThousandths}
use Rattle.qm_space.specs.Bounds.{thousandths_extent}
use Rattle.qm_grammar.specs.declared.refusal.Refusal.{Refusal}
use Rattle.qm_grammar.specs.declared.refusal.Refusal.TheVariants as refusal
use Rattle.qm_grammar.specs.Number.{coordinate_places, thousandths_fraction, SpellsThousandths, SpellsCoordinate, IsOutsideText}
use Rattle.qm_grammar.specs.inner.Machine.{coordinate_of, coordinate_of_answer, coordinate_in_range}

-- the answer that a text has is the one that is computed
pub computed_answer : (text : List ℕ) (places : ℕ) (answer : Result Fraction NumberFault) → IsAnswer text places answer → read_at text places ≡ answer
computed_answer text places answer is = same_answer text places (read_at text places) answer (read_at_answers text places) is

pub answer_computed : (text : List ℕ) (places : ℕ) (answer : Result Fraction NumberFault) → read_at text places ≡ answer → IsAnswer text places answer
answer_computed text places answer is = subst (IsAnswer text places) is (read_at_answers text places)

-- ---- coordinates

-- whether a number of thousandths is a coordinate
within : (n : ℤ) → (int_le (neg_ℤ thousandths_extent) n && int_le n thousandths_extent) ≡ true → IsThousandths n
within n e =
    let both = and_parts (int_le (neg_ℤ thousandths_extent) n) (int_le n thousandths_extent) e in
    let low = both.0 in
    let high = both.1 in
    record { low = omega (arith, ints); high = omega (arith, ints) }

is_within : (n : ℤ) → IsThousandths n → (int_le (neg_ℤ thousandths_extent) n && int_le n thousandths_extent) ≡ true
is_within n is =
    let low = is.low in
    let high = is.high in
    and_from (int_le (neg_ℤ thousandths_extent) n) (int_le n thousandths_extent)
    (true_from_ne_false (int_le (neg_ℤ thousandths_extent) n) (λ e. absurd (omega (arith, ints))))
    (true_from_ne_false (int_le n thousandths_extent) (λ e. absurd (omega (arith, ints))))

-- a fraction of thousandths
thousandths_is : (fraction : Fraction) (n : ℤ) → fraction.places ≡ coordinate_places → fraction.numerator ≡ n → fraction ≡ thousandths_fraction n
thousandths_is fraction n places numerator =
    let make : ℤ → ℕ → Fraction = λ z k. record { numerator = z; places = k } in
    ap (λ (k : ℕ). make fraction.numerator k) places ∙ ap (λ (z : ℤ). make z coordinate_places) numerator

-- the answer at three places is one
answer_thousandths : (text : List ℕ) (fraction : Fraction) (n : ℤ) → IsAnswer text coordinate_places (Ok fraction) → fraction.numerator ≡ n → SpellsThousandths text n
answer_thousandths text fraction n is numerator = subst (λ (f : Fraction). IsAnswer text coordinate_places (Ok f)) (thousandths_is fraction n is.places_kept numerator) is

in_range_ok : (fraction : Fraction) → IsThousandths fraction.numerator → coordinate_in_range fraction ≡ Ok fraction.numerator
in_range_ok fraction is = rw (is_within fraction.numerator is) refl

-- why a word is refused where a coordinate is due
pub data IsBadCoordinate (text : List ℕ) : Refusal → Type 0 where
  no_number : IsNoNumber text → IsBadCoordinate text refusal.BadNumber
  fraction : IsTooFineText text coordinate_places → IsBadCoordinate text refusal.Fraction
  too_large : IsTooLargeText text coordinate_places → IsBadCoordinate text refusal.CoordinateRange
  outside : IsOutsideText text → IsBadCoordinate text refusal.CoordinateRange

-- a word that spells a coordinate is read as it
pub spelled_coordinate : (text : List ℕ) (c : ℤ) → SpellsCoordinate text c → coordinate_of text ≡ Ok c
unfolding coordinate_of
spelled_coordinate text c spells =
    rw (computed_answer text coordinate_places (Ok (thousandths_fraction c)) spells.spelled) (in_range_ok (thousandths_fraction c) spells.in_range)

range_refused : (n : ℤ) → (IsThousandths n → ⊥) → coordinate_in_range (thousandths_fraction n) ≡ Err refusal.CoordinateRange
range_refused n out = rw (false_from_ne_true (int_le (neg_ℤ thousandths_extent) n && int_le n thousandths_extent) (λ e. out (within n e))) refl

-- a word that spells none is refused
pub bad_coordinate : (text : List ℕ) (reason : Refusal) → IsBadCoordinate text reason → coordinate_of text ≡ Err reason
unfolding coordinate_of
bad_coordinate text reason (no_number is) = rw (computed_answer text coordinate_places (Err number.Form) is) refl
bad_coordinate text reason (fraction is) = rw (computed_answer text coordinate_places (Err number.TooFine) is) refl
bad_coordinate text reason (too_large is) = rw (computed_answer text coordinate_places (Err number.TooLarge) is) refl
bad_coordinate text reason (outside is) =
    rw (computed_answer text coordinate_places (Ok (thousandths_fraction is.number)) is.spelled) (range_refused is.number is.out_of_range)

-- what is read is spelled
read_in_range : (text : List ℕ) (f : Fraction) (c : ℤ) → IsAnswer text coordinate_places (Ok f) → (t : Bool) → (int_le (neg_ℤ thousandths_extent) f.numerator && int_le f.numerator thousandths_extent) ≡ t → coordinate_in_range f ≡ Ok c → SpellsCoordinate text c
read_in_range text f c is true tested read =
    let same : Ok f.numerator ≡ Ok c = sym (in_range_ok f (within f.numerator tested)) ∙ read in
    let numerator : f.numerator ≡ c = cc in
    record { spelled = answer_thousandths text f c is numerator; in_range = subst IsThousandths numerator (within f.numerator tested) }
read_in_range text f c is false tested read =
    absurd (let never : Err refusal.CoordinateRange ≡ Ok c = rw tested at read in cc)

read_answer : (text : List ℕ) (c : ℤ) (answer : Result Fraction NumberFault) → read_at text coordinate_places ≡ answer → coordinate_of_answer answer ≡ Ok c → SpellsCoordinate text c
read_answer text c (Ok f) is read =
    read_in_range text f c (answer_computed text coordinate_places (Ok f) is) (int_le (neg_ℤ thousandths_extent) f.numerator && int_le f.numerator thousandths_extent) refl read
read_answer text c (Err number.Form) is read = absurd cc
read_answer text c (Err number.TooFine) is read = absurd cc
read_answer text c (Err number.TooLarge) is read = absurd cc

pub coordinate_spelled : (text : List ℕ) (c : ℤ) → coordinate_of text ≡ Ok c → SpellsCoordinate text c
unfolding coordinate_of
coordinate_spelled text c read = read_answer text c (read_at text coordinate_places) refl read

-- what is refused spells no coordinate
refused_in_range : (text : List ℕ) (f : Fraction) (reason : Refusal) → IsAnswer text coordinate_places (Ok f) → (t : Bool) → (int_le (neg_ℤ thousandths_extent) f.numerator && int_le f.numerator thousandths_extent) ≡ t → coordinate_in_range f ≡ Err reason → IsBadCoordinate text reason
refused_in_range text f reason is true tested refused =
    absurd (let never : Ok f.numerator ≡ Err reason = sym (in_range_ok f (within f.numerator tested)) ∙ refused in cc)
refused_in_range text f reason is false tested refused =
    let out : IsThousandths f.numerator → ⊥ = λ c. both_ways (int_le (neg_ℤ thousandths_extent) f.numerator && int_le f.numerator thousandths_extent) tested (is_within f.numerator c) in
    let same : Err refusal.CoordinateRange ≡ Err reason = rw tested at refused in
    let reasons : refusal.CoordinateRange ≡ reason = cc in
    subst (IsBadCoordinate text) reasons (outside (record { number = f.numerator; spelled = answer_thousandths text f f.numerator is refl; out_of_range = out }))

refused_answer : (text : List ℕ) (reason : Refusal) (answer : Result Fraction NumberFault) → read_at text coordinate_places ≡ answer → coordinate_of_answer answer ≡ Err reason → IsBadCoordinate text reason
refused_answer text reason (Ok f) is refused =
    refused_in_range text f reason (answer_computed text coordinate_places (Ok f) is) (int_le (neg_ℤ thousandths_extent) f.numerator && int_le f.numerator thousandths_extent) refl refused
refused_answer text reason (Err number.Form) is refused =
    let reasons : refusal.BadNumber ≡ reason = cc in
    subst (IsBadCoordinate text) reasons (no_number (answer_computed text coordinate_places (Err number.Form) is))
refused_answer text reason (Err number.TooFine) is refused =
    let reasons : refusal.Fraction ≡ reason = cc in
    subst (IsBadCoordinate text) reasons (fraction (answer_computed text coordinate_places (Err number.TooFine) is))
refused_answer text reason (Err number.TooLarge) is refused =
    let reasons : refusal.CoordinateRange ≡ reason = cc in
    subst (IsBadCoordinate text) reasons (too_large (answer_computed text coordinate_places (Err number.TooLarge) is))

pub coordinate_bad : (text : List ℕ) (reason : Refusal) → coordinate_of text ≡ Err reason → IsBadCoordinate text reason
unfolding coordinate_of
coordinate_bad text reason refused = refused_answer text reason (read_at text coordinate_places) refl refused
