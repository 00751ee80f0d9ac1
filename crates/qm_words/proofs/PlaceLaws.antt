-- Places, as they are written.
use Rattle.std.proofs.Common.{◌≡◌, ◌∙◌, ℕ, ℤ, pos, refl, sym, ap, subst, List, ◌∷◌, ◌++◌, append_assoc, Result, Ok, Err}
use Rattle.qm_numerals.specs.Answer.{IsAnswer, IsValue}
use Rattle.qm_numerals.specs.declared.fraction.Fraction.{Fraction}
use Rattle.qm_numerals.specs.declared.fraction.NumberFault.{NumberFault}
use Rattle.qm_numerals.proofs.Uniqueness.{same_answer}
use Rattle.qm_commands.specs.QueryWord.{AreEndNumbers, AreMillionths, ArePlaceNumbers}
use Rattle.qm_commands.specs.declared.millionths.Millionths.{Millionths}
use Rattle.qm_words.specs.inner.PlacesRead.{HasNoComma, IsCommaSplit, IsNumberBefore, IsPlaceBefore}
use Rattle.qm_words.proofs.Commas.{clear_number, splits_once}

-- ---- one number

abbrev numerator_of : Result Fraction NumberFault → ℤ
numerator_of (Ok fraction) = fraction.numerator
numerator_of (Err fault) = pos 0

pub millionths_once : (text : List ℕ) (n m : ℤ) → AreMillionths text n → AreMillionths text m → n ≡ m
millionths_once text n m is_n is_m =
    ap numerator_of (same_answer text 6 (Ok (record { numerator = n; places = 6 })) (Ok (record { numerator = m; places = 6 })) is_n is_m)

pub value_is_millionths : (text : List ℕ) (fraction : Fraction) → IsValue text 6 fraction → AreMillionths text fraction.numerator
value_is_millionths text fraction value = subst (λ (places : ℕ). IsValue text 6 (record { numerator = fraction.numerator; places = places })) value.places_kept value

pub no_millionths : (text : List ℕ) (fault : NumberFault) (n : ℤ) → IsAnswer text 6 (Err fault) → AreMillionths text n → ⊥
no_millionths text fault n wrong is =
    let same = same_answer text 6 (Ok (record { numerator = n; places = 6 })) (Err fault) is wrong in absurd cc

clear_millionths : (text : List ℕ) (n : ℤ) → AreMillionths text n → HasNoComma text
clear_millionths text n is = clear_number text is.number is.spelled

-- ---- a number before a comma

number_splits : (text : List ℕ) (n : ℤ) (rest : List ℕ) (is : IsNumberBefore text n rest) → IsCommaSplit text is.first rest
number_splits text n rest is = record { text_is = is.text_is; clear = clear_millionths is.first n is.is_number }

-- a text has one number before its first comma
one_number_before : (text : List ℕ) (n m : ℤ) (rest other : List ℕ) → IsNumberBefore text n rest → IsNumberBefore text m other → (n ≡ m) × (rest ≡ other)
one_number_before text n m rest other one two =
    let parts = splits_once text one.first rest two.first other (number_splits text n rest one) (number_splits text m other two) in
    (millionths_once two.first n m (subst (λ (t : List ℕ). AreMillionths t n) parts.0 one.is_number) two.is_number, parts.1)

-- no comma, or none before which a number stands
pub no_number_split : (text : List ℕ) → ((first rest : List ℕ) → IsCommaSplit text first rest → ⊥) → (n : ℤ) (rest : List ℕ) → IsNumberBefore text n rest → ⊥
no_number_split text never n rest is = never is.first rest (number_splits text n rest is)

pub no_number_first : (text first rest : List ℕ) → IsCommaSplit text first rest → ((n : ℤ) → AreMillionths first n → ⊥) → (n : ℤ) (other : List ℕ) → IsNumberBefore text n other → ⊥
no_number_first text first rest split never n other is =
    never n (subst (λ (t : List ℕ). AreMillionths t n) (splits_once text is.first other first rest (number_splits text n other is) split).0 is.is_number)

pub number_before_is : (text first rest : List ℕ) (n : ℤ) → IsCommaSplit text first rest → AreMillionths first n → IsNumberBefore text n rest
number_before_is text first rest n split is = record { first = first; text_is = split.text_is; is_number = is }

-- ---- three numbers, one after another

-- two before commas, and a third of some form behind them
record AreThree (Third : List ℕ → ℤ → Type 0) (text : List ℕ) (x y z : ℤ) : Type 0 where
  behind : List ℕ
  last : List ℕ
  is_x : IsNumberBefore text x behind
  is_y : IsNumberBefore behind y last
  is_z : Third last z

-- texts that are no such three
abbrev AreNoThree : (List ℕ → ℤ → Type 0) → List ℕ → Type 0
AreNoThree Third text = (x y z : ℤ) → AreThree Third text x y z → ⊥

module _ (Third : List ℕ → ℤ → Type 0) (text : List ℕ) where
  three_no_x : ((n : ℤ) (rest : List ℕ) → IsNumberBefore text n rest → ⊥) → AreNoThree Third text
  three_no_x never x y z are = never x are.behind are.is_x

  module _ (behind : List ℕ) (x : ℤ) (is_x : IsNumberBefore text x behind) where
    second_of : (a b c : ℤ) (are : AreThree Third text a b c) → IsNumberBefore behind b are.last
    second_of a b c are = subst (λ (t : List ℕ). IsNumberBefore t b are.last) (one_number_before text a x are.behind behind are.is_x is_x).1 are.is_y

    three_no_y : ((n : ℤ) (rest : List ℕ) → IsNumberBefore behind n rest → ⊥) → AreNoThree Third text
    three_no_y never a b c are = never b are.last (second_of a b c are)

    three_no_z : (last : List ℕ) (y : ℤ) → IsNumberBefore behind y last → ((n : ℤ) → Third last n → ⊥) → AreNoThree Third text
    three_no_z last y is_y never a b c are =
        never c (subst (λ (t : List ℕ). Third t c) (one_number_before behind b y are.last last (second_of a b c are) is_y).1 are.is_z)

-- they are the same where the third ones are
three_once : (Third Other : List ℕ → ℤ → Type 0) (Same : ℤ → ℤ → Type 0) → ((text : List ℕ) (n m : ℤ) → Third text n → Other text m → Same n m)
    → (text : List ℕ) (x y z a b c : ℤ) → AreThree Third text x y z → AreThree Other text a b c → (x ≡ a) × (y ≡ b) × Same z c
three_once Third Other Same third_once text x y z a b c one two =
    let front = one_number_before text x a one.behind two.behind one.is_x two.is_x in
    let middle = one_number_before two.behind y b one.last two.last (subst (λ (t : List ℕ). IsNumberBefore t y one.last) front.1 one.is_y) two.is_y in
    (front.0, middle.0, third_once two.last z c (subst (λ (t : List ℕ). Third t z) middle.1 one.is_z) two.is_z)

-- ---- a place

place_three : (text : List ℕ) (x y z : ℤ) → ArePlaceNumbers text x y z → AreThree AreMillionths text x y z
place_three text x y z are = record {
  behind = are.second ++ (44 ∷ are.third);
  last = are.third;
  is_x = record { first = are.first; text_is = are.text_is; is_number = are.is_x };
  is_y = record { first = are.second; text_is = refl; is_number = are.is_y };
  is_z = are.is_z;
}

pub place_is : (text behind last : List ℕ) (x y z : ℤ) → IsNumberBefore text x behind → IsNumberBefore behind y last → AreMillionths last z → ArePlaceNumbers text x y z
place_is text behind last x y z is_x is_y is_z = record {
  first = is_x.first;
  second = is_y.first;
  third = last;
  text_is = is_x.text_is ∙ ap (λ (rest : List ℕ). is_x.first ++ (44 ∷ rest)) is_y.text_is;
  is_x = is_x.is_number;
  is_y = is_y.is_number;
  is_z = is_z;
}

-- a text writes one place
pub place_once : (text : List ℕ) (x y z a b c : ℤ) → ArePlaceNumbers text x y z → ArePlaceNumbers text a b c → (x ≡ a) × (y ≡ b) × (z ≡ c)
place_once text x y z a b c one two =
    three_once AreMillionths AreMillionths (λ n m. n ≡ m) millionths_once text x y z a b c (place_three text x y z one) (place_three text a b c two)

-- texts that write none
abbrev AreNoPlace : List ℕ → Type 0
AreNoPlace text = (x y z : ℤ) → ArePlaceNumbers text x y z → ⊥

no_place : (text : List ℕ) → AreNoThree AreMillionths text → AreNoPlace text
no_place text never x y z are = never x y z (place_three text x y z are)

pub no_x : (text : List ℕ) → ((n : ℤ) (rest : List ℕ) → IsNumberBefore text n rest → ⊥) → AreNoPlace text
no_x text never = no_place text (three_no_x AreMillionths text never)

pub no_y : (text behind : List ℕ) (x : ℤ) → IsNumberBefore text x behind → ((n : ℤ) (rest : List ℕ) → IsNumberBefore behind n rest → ⊥) → AreNoPlace text
no_y text behind x is_x never = no_place text (three_no_y AreMillionths text behind x is_x never)

pub no_z : (text behind last : List ℕ) (x y : ℤ) → IsNumberBefore text x behind → IsNumberBefore behind y last → ((n : ℤ) → AreMillionths last n → ⊥) → AreNoPlace text
no_z text behind last x y is_x is_y never = no_place text (three_no_z AreMillionths text behind x is_x last y is_y never)

-- ---- a place before a comma

-- the third number stands before a comma as well
abbrev IsThirdBefore : List ℕ → List ℕ → ℤ → Type 0
IsThirdBefore rest last z = IsNumberBefore last z rest

-- three texts with commas between them, and a fourth
in_a_row : (a b c d : List ℕ) → (a ++ (44 ∷ (b ++ (44 ∷ c)))) ++ d ≡ a ++ (44 ∷ (b ++ (44 ∷ (c ++ d))))
in_a_row a b c d = append_assoc a (44 ∷ (b ++ (44 ∷ c))) d ∙ ap (λ (rest : List ℕ). a ++ (44 ∷ rest)) (append_assoc b (44 ∷ c) d)

before_three : (text : List ℕ) (at : Millionths) (rest : List ℕ) → IsPlaceBefore text at rest → AreThree (IsThirdBefore rest) text at.x at.y at.z
before_three text at rest is =
    let place = is.is_place in
    record {
      behind = place.second ++ (44 ∷ (place.third ++ (44 ∷ rest)));
      last = place.third ++ (44 ∷ rest);
      is_x = record {
        first = place.first;
        text_is = is.text_is ∙ ap (λ (front : List ℕ). front ++ (44 ∷ rest)) place.text_is ∙ in_a_row place.first place.second place.third (44 ∷ rest);
        is_number = place.is_x;
      };
      is_y = record { first = place.second; text_is = refl; is_number = place.is_y };
      is_z = record { first = place.third; text_is = refl; is_number = place.is_z };
    }

pub place_before_is : (text behind last rest : List ℕ) (x y z : ℤ) → IsNumberBefore text x behind → IsNumberBefore behind y last → IsNumberBefore last z rest
    → IsPlaceBefore text (record { x = x; y = y; z = z }) rest
place_before_is text behind last rest x y z is_x is_y is_z = record {
  front = is_x.first ++ (44 ∷ (is_y.first ++ (44 ∷ is_z.first)));
  text_is = is_x.text_is ∙ ap (λ (more : List ℕ). is_x.first ++ (44 ∷ more)) (is_y.text_is ∙ ap (λ (more : List ℕ). is_y.first ++ (44 ∷ more)) is_z.text_is)
      ∙ sym (in_a_row is_x.first is_y.first is_z.first (44 ∷ rest));
  is_place = record { first = is_x.first; second = is_y.first; third = is_z.first; text_is = refl; is_x = is_x.is_number; is_y = is_y.is_number; is_z = is_z.is_number };
}

same_place : (at other : Millionths) → at.x ≡ other.x → at.y ≡ other.y → at.z ≡ other.z → at ≡ other
same_place at other x y z = λ i. record { x = x i; y = y i; z = z i }

one_place_before : (text : List ℕ) (at other : Millionths) (rest behind : List ℕ) → IsPlaceBefore text at rest → IsPlaceBefore text other behind → (at ≡ other) × (rest ≡ behind)
one_place_before text at other rest behind one two =
    let same = three_once (IsThirdBefore rest) (IsThirdBefore behind) (λ n m. (n ≡ m) × (rest ≡ behind)) (λ last n m is also. one_number_before last n m rest behind is also)
    text at.x at.y at.z other.x other.y other.z (before_three text at rest one) (before_three text other behind two) in
    (same_place at other same.0 same.1 same.2.0, same.2.1)

-- texts that begin with none
abbrev AreNoPlaceBefore : List ℕ → Type 0
AreNoPlaceBefore text = (at : Millionths) (rest : List ℕ) → IsPlaceBefore text at rest → ⊥

no_place_before : (text : List ℕ) → ((rest : List ℕ) → AreNoThree (IsThirdBefore rest) text) → AreNoPlaceBefore text
no_place_before text never at rest is = never rest at.x at.y at.z (before_three text at rest is)

pub before_no_x : (text : List ℕ) → ((n : ℤ) (rest : List ℕ) → IsNumberBefore text n rest → ⊥) → AreNoPlaceBefore text
before_no_x text never = no_place_before text (λ rest. three_no_x (IsThirdBefore rest) text never)

pub before_no_y : (text behind : List ℕ) (x : ℤ) → IsNumberBefore text x behind → ((n : ℤ) (rest : List ℕ) → IsNumberBefore behind n rest → ⊥) → AreNoPlaceBefore text
before_no_y text behind x is_x never = no_place_before text (λ rest. three_no_y (IsThirdBefore rest) text behind x is_x never)

pub before_no_z : (text behind last : List ℕ) (x y : ℤ) → IsNumberBefore text x behind → IsNumberBefore behind y last → ((n : ℤ) (rest : List ℕ) → IsNumberBefore last n rest → ⊥)
    → AreNoPlaceBefore text
before_no_z text behind last x y is_x is_y never = no_place_before text (λ rest. three_no_z (IsThirdBefore rest) text behind x is_x last y is_y (λ n. never n rest))

-- ---- the ends of a segment

ends_front : (text : List ℕ) (from to : Millionths) (are : AreEndNumbers text from to) → IsPlaceBefore text from are.to_text
ends_front text from to are = record { front = are.from_text; text_is = are.text_is; is_place = are.is_from }

pub ends_are : (text rest : List ℕ) (from to : Millionths) → IsPlaceBefore text from rest → ArePlaceNumbers rest to.x to.y to.z → AreEndNumbers text from to
ends_are text rest from to is_from is_to = record { from_text = is_from.front; to_text = rest; text_is = is_from.text_is; is_from = is_from.is_place; is_to = is_to }

-- a text writes one pair of ends
pub ends_once : (text : List ℕ) (from to other last : Millionths) → AreEndNumbers text from to → AreEndNumbers text other last → (from ≡ other) × (to ≡ last)
ends_once text from to other last one two =
    let front = one_place_before text from other one.to_text two.to_text (ends_front text from to one) (ends_front text other last two) in
    let same = place_once two.to_text to.x to.y to.z last.x last.y last.z (subst (λ (t : List ℕ). ArePlaceNumbers t to.x to.y to.z) front.1 one.is_to) two.is_to in
    (front.0, same_place to last same.0 same.1 same.2)

pub no_from : (text : List ℕ) → AreNoPlaceBefore text → (from to : Millionths) → AreEndNumbers text from to → ⊥
no_from text never from to are = never from are.to_text (ends_front text from to are)

pub no_to : (text rest : List ℕ) (at : Millionths) → IsPlaceBefore text at rest → AreNoPlace rest → (from to : Millionths) → AreEndNumbers text from to → ⊥
no_to text rest at is never from to are =
    let front = one_place_before text from at are.to_text rest (ends_front text from to are) is in
    never to.x to.y to.z (subst (λ (t : List ℕ). ArePlaceNumbers t to.x to.y to.z) front.1 are.is_to)
