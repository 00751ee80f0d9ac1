-- Which values of an origin give a point, as it is computed.
use Rattle.std.proofs.Common.{◌≡◌, ◌<◌, ℕ, ◌*◌, Bool, true, false, ℤ, pos, unsigned_abs, ltb, List, [], ◌∷◌, Option, Some, None, is_none, Result, Ok, Err, ap, refl, sym, subst, ◌∙◌}
use Rattle.std.proofs.lemmas.Bool.{lt-ltb, ltb-true}
use Rattle.qm_lists.proofs.Cases.{by_option}
use Rattle.qm_numerals.specs.declared.fraction.Fraction.{Fraction}
use Rattle.qm_numerals.specs.declared.fraction.NumberFault.{NumberFault}
use Rattle.qm_numerals.specs.Answer.{IsAnswer}
use Rattle.qm_numerals.specs.Computed.{read_at}
use Rattle.qm_space.specs.Bounds.{world_extent}
use Rattle.qm_space.specs.Point.{Point}
use Rattle.qm_grammar.specs.Words.{words_of_text}
use Rattle.qm_grammar.specs.Number.{SpellsMillionths, parts_of_unit}
use Rattle.qm_grammar.specs.Origin.{SpellsOrigin, IsOriginText}
use Rattle.qm_grammar.specs.inner.Machine.{millionths_in_range, millionths_of_answer, millionths_of, point_of_words, origin_of}
use Rattle.qm_grammar.proofs.Numbers.{computed_answer, answer_computed}

-- ---- one number

pub spelled_millionths : (text : List ℕ) (n : ℤ) → SpellsMillionths text n → millionths_of text ≡ Some n
unfolding millionths_of
spelled_millionths text n spells =
    rw (computed_answer text 6 (Ok (record { numerator = n; places = 6 })) spells.spelled, lt-ltb (unsigned_abs n) (world_extent * parts_of_unit) spells.in_range) refl

six_places : (fraction : Fraction) (n : ℤ) → fraction.places ≡ 6 → fraction.numerator ≡ n → fraction ≡ record { numerator = n; places = 6 }
six_places fraction n places numerator =
    let make : ℤ → ℕ → Fraction = λ z k. record { numerator = z; places = k } in
    ap (λ (k : ℕ). make fraction.numerator k) places ∙ ap (λ (z : ℤ). make z 6) numerator

read_in_range : (text : List ℕ) (f : Fraction) (n : ℤ) → IsAnswer text 6 (Ok f) → (t : Bool) → ltb (unsigned_abs f.numerator) (world_extent * parts_of_unit) ≡ t → millionths_in_range f ≡ Some n → SpellsMillionths text n
read_in_range text f n is true tested read =
    let same : Some f.numerator ≡ Some n = rw tested at read in
    let numerator : f.numerator ≡ n = cc in
    record {
      spelled = subst (λ (g : Fraction). IsAnswer text 6 (Ok g)) (six_places f n is.places_kept numerator) is;
      in_range = subst (λ (z : ℤ). unsigned_abs z < world_extent * parts_of_unit) numerator (ltb-true (unsigned_abs f.numerator) (world_extent * parts_of_unit) tested);
    }
read_in_range text f n is false tested read = absurd (let never : None ≡ Some n = rw tested at read in cc)

read_answer : (text : List ℕ) (n : ℤ) (answer : Result Fraction NumberFault) → read_at text 6 ≡ answer → millionths_of_answer answer ≡ Some n → SpellsMillionths text n
read_answer text n (Ok f) is read =
    read_in_range text f n (answer_computed text 6 (Ok f) is) (ltb (unsigned_abs f.numerator) (world_extent * parts_of_unit)) refl read
read_answer text n (Err fault) is read = absurd cc

pub millionths_spelled : (text : List ℕ) (n : ℤ) → millionths_of text ≡ Some n → SpellsMillionths text n
unfolding millionths_of
millionths_spelled text n read = read_answer text n (read_at text 6) refl read

-- ---- three numbers

pub spelled_origin : (value : List ℕ) (point : Point) → SpellsOrigin value point → origin_of value ≡ Some point
unfolding origin_of
spelled_origin value point spells =
    let make : ℤ → Option Point = λ w. Some (record { x = point.x; y = point.y; z = point.z; w = w }) in
    ap point_of_words spells.words
    ∙ rw (spelled_millionths spells.first point.x spells.x, spelled_millionths spells.second point.y spells.y, spelled_millionths spells.third point.z spells.z)
    (ap make (sym spells.w))

-- the point of three numbers that are read
three_read : (value a b c : List ℕ) (x y z : ℤ) (point : Point) → words_of_text value ≡ a ∷ b ∷ c ∷ [] → millionths_of a ≡ Some x → millionths_of b ≡ Some y → millionths_of c ≡ Some z → point_of_words (a ∷ b ∷ c ∷ []) ≡ Some point → SpellsOrigin value point
three_read value a b c x y z point words first second third read =
    let made : Point = record { x = x; y = y; z = z; w = pos parts_of_unit } in
    let same : Some made ≡ Some point = rw (first, second, third) at read in
    let points : made ≡ point = cc in
    subst (SpellsOrigin value) points
    (record { first = a; second = b; third = c; words = words; x = millionths_spelled a x first; y = millionths_spelled b y second; z = millionths_spelled c z third; w = refl })

no_first : (a b c : List ℕ) (point : Point) → millionths_of a ≡ None → point_of_words (a ∷ b ∷ c ∷ []) ≡ Some point → ⊥
no_first a b c point none read = let never : None ≡ Some point = rw none at read in cc

no_second : (a b c : List ℕ) (x : ℤ) (point : Point) → millionths_of a ≡ Some x → millionths_of b ≡ None → point_of_words (a ∷ b ∷ c ∷ []) ≡ Some point → ⊥
no_second a b c x point first none read = let never : None ≡ Some point = rw (first, none) at read in cc

no_third : (a b c : List ℕ) (x y : ℤ) (point : Point) → millionths_of a ≡ Some x → millionths_of b ≡ Some y → millionths_of c ≡ None → point_of_words (a ∷ b ∷ c ∷ []) ≡ Some point → ⊥
no_third a b c x y point first second none read = let never : None ≡ Some point = rw (first, second, none) at read in cc

words_read : (value : List ℕ) (point : Point) (words : List (List ℕ)) → words_of_text value ≡ words → point_of_words words ≡ Some point → SpellsOrigin value point
words_read value point [] is read = absurd cc
words_read value point (a ∷ []) is read = absurd cc
words_read value point (a ∷ b ∷ []) is read = absurd cc
words_read value point (a ∷ b ∷ c ∷ []) is read =
    by_option (millionths_of a) (λ none. absurd (no_first a b c point none read))
    (λ x first. by_option (millionths_of b) (λ none. absurd (no_second a b c x point first none read))
    (λ y second. by_option (millionths_of c) (λ none. absurd (no_third a b c x y point first second none read))
    (λ z third. three_read value a b c x y z point is first second third read)))
words_read value point (a ∷ b ∷ c ∷ d ∷ more) is read = absurd cc

pub origin_spelled : (value : List ℕ) (point : Point) → origin_of value ≡ Some point → SpellsOrigin value point
unfolding origin_of
origin_spelled value point read = words_read value point (words_of_text value) refl read

-- ---- whether a value gives a point

pub none_no_origin : (value : List ℕ) → is_none (origin_of value) ≡ true → IsOriginText value → ⊥
none_no_origin value none (point, spells) = let never : false ≡ true = rw (spelled_origin value point spells) at none in cc

pub some_origin : (value : List ℕ) → is_none (origin_of value) ≡ false → IsOriginText value
some_origin value some =
    by_option (origin_of value)
    (λ none. absurd (let never : true ≡ false = rw none at some in cc))
    (λ point is. (point, origin_spelled value point is))
