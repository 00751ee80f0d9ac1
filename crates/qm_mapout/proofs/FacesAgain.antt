-- The line of a face spells the face.
use Rattle.std.proofs.Common.{◌≡◌, ◌≢◌, ◌<◌, ◌⊎◌, ℕ, suc, ℤ, Bool, true, false, ◌||◌, nat_le, ◌==◌, if◌then◌else◌, List, [], ◌∷◌, ◌++◌, None, lit<, refl, sym, ap, subst, ◌∙◌, inl, inr, append_assoc, append-nil, arith, rules, length, flat_map, is_some}
use Rattle.std.specs.Prelude.{All}
use Rattle.std.specs.List.{AllByRecursion, list_any}
use Rattle.qm_numerals.specs.Printed.{signed_thousandths}
use Rattle.std.proofs.lemmas.List.Elements.{All-nil, All-cons, All-head, All-tail}
use Rattle.std.proofs.lemmas.List.{get_or_default}
use Rattle.std.proofs.lemmas.Bool.{leb-false}
use Rattle.std.proofs.lemmas.Bool.Decides.{eqb_tells}
use Rattle.qm_space.specs.Point.{IsThousandths, AreThousandths}
use Rattle.qm_tokens.specs.Piece.{OpensWord}
use Rattle.qm_mapfile.specs.declared.face.Face.{Face}
use Rattle.qm_mapfile.specs.declared.face.Mapping.{Mapping}
use Rattle.qm_mapfile.specs.declared.face.Mapping.TheVariants.{Standard, Valve}
use Rattle.qm_grammar.specs.declared.mark.Mark.TheVariants.{OpenParenthesis, CloseParenthesis, OpenBracket, CloseBracket}
use Rattle.qm_grammar.specs.declared.mark.Sort.TheVariants as sort
use Rattle.qm_grammar.specs.declared.slot.Slot.{Slot}
use Rattle.qm_grammar.specs.declared.slot.Slot.TheVariants as slot
use Rattle.qm_grammar.specs.Symbol.{Symbol, mark_of, mark_of_byte, sort_of}
use Rattle.qm_grammar.specs.Slots.{points_of, mapping_of, mapping_slots, head_slots, Form, Fills, Fill, none, more, mark, coordinate, texture, quoted_texture, point_slots, axis_slots, standard_slots, valve_slots, face_slots, standard, valve, face_of}
use Rattle.qm_grammar.specs.Slots as slots
use Rattle.qm_grammar.specs.Grammar.{SpellsFace}
use Rattle.qm_grammar.specs.Valid.{IsNameText, HasNoQuote, HasWords, IsValidFace, words_of_mapping}
use Rattle.qm_lists.proofs.Elements.{AllByRecursion-append}
use Rattle.qm_lists.proofs.Options.{none_from_is_some}
use Rattle.qm_grammar.specs.Lines.{symbols_of_line}
use Rattle.qm_grammar.specs.Printed.{word_symbol, quoted, number_symbol, open_parenthesis, close_parenthesis, open_bracket, close_bracket, point_symbols, needs_quotes, begins_comment, texture_symbol, axis_symbols, mapping_prefix, mapping_last, face_line}
use Rattle.qm_mapout.proofs.Lexed.{IsWritable}
use Rattle.qm_mapout.proofs.LinesLexed.{IsWritableLine}
use Rattle.qm_mapout.proofs.Numbers.{number_text}

-- symbols that fill slots and can be written
pub record Stand (slots : List Slot) (symbols : List Symbol) (numbers : List ℤ) (texts : List (List ℕ)) : Type 0 where
  pub fill : Fill slots symbols numbers texts
  pub writable : AllByRecursion IsWritable symbols

fill_join : {s t : List Slot} {xs ys : List Symbol} {ns ms : List ℤ} {ts us : List (List ℕ)} →
    Fill s xs ns ts → Fill t ys ms us → Fill (s ++ t) (xs ++ ys) (ns ++ ms) (ts ++ us)
fill_join none second = second
fill_join {t = t} {ys = ys} {ms = ms} {us = us}
    (more {one = o} {slots = ss} {symbol = x} {symbols = xs} {number = n} {numbers = ns} {text = a} {texts = bs} first others) second =
    let P : List ℤ → Type 0 = λ l. Fill (o ∷ (ss ++ t)) (x ∷ (xs ++ ys)) l ((a ++ bs) ++ us) in
    let Q : List (List ℕ) → Type 0 = λ l. Fill (o ∷ (ss ++ t)) (x ∷ (xs ++ ys)) (n ++ (ns ++ ms)) l in
    subst P (sym (append_assoc n ns ms)) (subst Q (sym (append_assoc a bs us)) (more first (fill_join others second)))

pub join : {s t : List Slot} {xs ys : List Symbol} {ns ms : List ℤ} {ts us : List (List ℕ)} →
    Stand s xs ns ts → Stand t ys ms us → Stand (s ++ t) (xs ++ ys) (ns ++ ms) (ts ++ us)
join first second = record {
  fill = fill_join first.fill second.fill;
  writable = AllByRecursion-append IsWritable _ _ first.writable second.writable;
}

-- one symbol in one slot
pub stand_one : {s : Slot} {x : Symbol} {n : List ℤ} {t : List (List ℕ)} → Fills s x n t → IsWritable x → Stand (s ∷ []) (x ∷ []) (n ++ []) (t ++ [])
stand_one one writable = record { fill = more one none; writable = (writable, tt) }

-- a word of one byte can stand as a token
pub mark_can_stand : (byte : ℕ) → 34 < byte → (byte ≡ 47 → ⊥) → IsWritable (word_symbol (byte ∷ []))
mark_can_stand byte high other =
    ((λ e. omega (arith, high, e)), All-cons (λ b. 32 < b) byte [] (omega (arith, high)) (All-nil (λ b. 32 < b)))

-- a mark
mark_stand : (byte : ℕ) {m : _} → sort_of (word_symbol (byte ∷ [])) ≡ sort.Mark m → 34 < byte → (byte ≡ 47 → ⊥) →
    Stand (slot.Mark m ∷ []) (word_symbol (byte ∷ []) ∷ []) [] []
mark_stand byte is_mark high other =
    stand_one (mark is_mark) (mark_can_stand byte high other)

open_stand : Stand (slot.Mark OpenParenthesis ∷ []) (open_parenthesis ∷ []) [] []
unfolding sort_of mark_of_byte
open_stand = mark_stand 40 refl (lit< tt) (λ e. omega (arith, e))

close_stand : Stand (slot.Mark CloseParenthesis ∷ []) (close_parenthesis ∷ []) [] []
unfolding sort_of mark_of_byte
close_stand = mark_stand 41 refl (lit< tt) (λ e. omega (arith, e))

open_bracket_stand : Stand (slot.Mark OpenBracket ∷ []) (open_bracket ∷ []) [] []
unfolding sort_of mark_of_byte
open_bracket_stand = mark_stand 91 refl (lit< tt) (λ e. omega (arith, e))

close_bracket_stand : Stand (slot.Mark CloseBracket ∷ []) (close_bracket ∷ []) [] []
unfolding sort_of mark_of_byte
close_bracket_stand = mark_stand 93 refl (lit< tt) (λ e. omega (arith, e))

name_sort : (bytes : List ℕ) → mark_of bytes ≡ None → sort_of (word_symbol bytes) ≡ sort.Name
unfolding sort_of
name_sort bytes no_mark = rw no_mark refl

number_stand : (n : ℤ) → IsThousandths n → Stand (slot.Coordinate ∷ []) (number_symbol n ∷ []) (n ∷ []) []
number_stand n range =
    let text = number_text n range in
    stand_one (coordinate (name_sort (signed_thousandths n) text.no_mark) text.spelled) (text.opens, text.visible)

pub word_stand : (bytes : List ℕ) → IsNameText bytes → Stand (slot.Word ∷ []) (word_symbol bytes ∷ []) [] (bytes ∷ [])
word_stand bytes name = stand_one (slots.word (name_sort bytes name.no_mark)) (name.opens, name.no_blank)

point_stand : (x y z : ℤ) → IsThousandths x → IsThousandths y → IsThousandths z →
    Stand point_slots (point_symbols (x ∷ y ∷ z ∷ [])) (x ∷ y ∷ z ∷ []) []
unfolding point_symbols
point_stand x y z in_x in_y in_z =
    join open_stand (join (number_stand x in_x) (join (number_stand y in_y) (join (number_stand z in_z) close_stand)))

axis_stand : (a b c d : List ℕ) → IsNameText a → IsNameText b → IsNameText c → IsNameText d →
    Stand axis_slots (axis_symbols (a ∷ b ∷ c ∷ d ∷ [])) [] (a ∷ b ∷ c ∷ d ∷ [])
axis_stand a b c d name_a name_b name_c name_d =
    join open_bracket_stand (join (word_stand a name_a) (join (word_stand b name_b) (join (word_stand c name_c) (join (word_stand d name_d) close_bracket_stand))))

or_left : (a b : Bool) → (a || b) ≡ false → a ≡ false
or_left false b e = refl
or_left true b e = e

or_right : (a b : Bool) → (a || b) ≡ false → b ≡ false
or_right false b e = e
or_right true b e = cc

no_blanks : (bytes : List ℕ) → list_any (λ byte. nat_le byte 32) bytes ≡ false → All (λ byte. 32 < byte) bytes
no_blanks [] e = All-nil (λ byte. 32 < byte)
no_blanks (byte ∷ bytes) e =
    let low : nat_le byte 32 ≡ false = or_left (nat_le byte 32) (list_any (λ b. nat_le b 32) bytes) e in
    All-cons (λ b. 32 < b) byte bytes (leb-false byte 32 low)
    (no_blanks bytes (or_right (nat_le byte 32) (list_any (λ b. nat_le b 32) bytes) e))

visible_byte : (byte : ℕ) → 32 < byte → nat_le byte 32 ≡ false
visible_byte byte high = search rules

blanks_not : (bytes : List ℕ) → All (λ byte. 32 < byte) bytes → list_any (λ byte. nat_le byte 32) bytes ≡ false
blanks_not [] all = refl
blanks_not (byte ∷ bytes) all =
    rw (visible_byte byte (All-head (λ b. 32 < b) byte bytes all)) (blanks_not bytes (All-tail (λ b. 32 < b) byte bytes all))

not_comment : (bytes : List ℕ) → OpensWord bytes → begins_comment bytes ≡ false
not_comment [] opens = absurd opens
not_comment (first ∷ []) opens = refl
not_comment (first ∷ second ∷ others) opens = elim (eqb_tells first 47) [
  | inl same ↦ elim (eqb_tells second 47) [
    | inl both ↦ absurd (opens.1 same.1 both.1)
    | inr other ↦ rw same.0 other.0
  ]
  | inr other ↦ rw other.0 refl
]

some_length : (n : ℕ) → (suc n == 0) ≡ false
some_length n = search rules

name_needs_no_quotes : (name : List ℕ) → IsNameText name → needs_quotes name ≡ false
unfolding needs_quotes
name_needs_no_quotes [] valid = absurd valid.opens
name_needs_no_quotes (byte ∷ bytes) valid =
    rw (some_length (length bytes)) (rw (blanks_not (byte ∷ bytes) valid.no_blank) (rw (not_comment (byte ∷ bytes) valid.opens) (rw valid.no_mark refl)))

-- what a texture's test says of a text that needs no quotes
record IsPlainName (name : List ℕ) : Type 0 where
  visible : All (λ byte. 32 < byte) name
  no_comment : begins_comment name ≡ false
  no_mark : mark_of name ≡ None
  some : length name ≡ 0 → ⊥

plain_by_test : (name : List ℕ) → needs_quotes name ≡ false → IsPlainName name
unfolding needs_quotes
plain_by_test name e =
    let blank : Bool = list_any (λ byte. nat_le byte 32) name in
    let earlier = or_left (length name == 0 || blank || begins_comment name) (is_some (mark_of name)) e in
    let shorter = or_left (length name == 0 || blank) (begins_comment name) earlier in
    record {
      visible = no_blanks name (or_right (length name == 0) blank shorter);
      no_comment = or_right (length name == 0 || blank) (begins_comment name) earlier;
      no_mark = none_from_is_some (mark_of name) (or_right (length name == 0 || blank || begins_comment name) (is_some (mark_of name)) e);
      some = λ h. elim (eqb_tells (length name) 0) [
        | inl same ↦ (let zero_test = same.0 in let no_zero = or_left (length name == 0) blank shorter in cc)
        | inr other ↦ other.1 h
      ];
    }

opens_without_quote : (name : List ℕ) → IsPlainName name → HasNoQuote name → OpensWord name
opens_without_quote [] plain no_quote = absurd (plain.some refl)
opens_without_quote (first ∷ []) plain no_quote = λ e. no_quote (0, lit< tt, e)
opens_without_quote (first ∷ second ∷ others) plain no_quote = (
  λ e. no_quote (0, omega arith, e),
  λ e f. let slashes : begins_comment (47 ∷ 47 ∷ others) ≡ false =
      subst (λ b. begins_comment (47 ∷ b ∷ others) ≡ false) f
      (subst (λ a. begins_comment (a ∷ second ∷ others) ≡ false) e plain.no_comment) in
      cc,
)

texture_opens : (name : List ℕ) → IsPlainName name → IsNameText name ⊎ HasNoQuote name → OpensWord name
texture_opens name plain (inl valid) = valid.opens
texture_opens name plain (inr no_quote) = opens_without_quote name plain no_quote

-- a text without a quote can stand between quotes
pub quotable : (name : List ℕ) → HasNoQuote name → All (λ byte. byte ≢ 34) name
quotable name no_quote = λ k d below e. no_quote (k, below, get_or_default name k 34 d below ∙ e)

texture_quotable : (name : List ℕ) → needs_quotes name ≡ true → IsNameText name ⊎ HasNoQuote name → All (λ byte. byte ≢ 34) name
texture_quotable name needs (inl valid) = absurd (let not_needed = name_needs_no_quotes name valid in cc)
texture_quotable name needs (inr no_quote) = quotable name no_quote

pub quoted_sort : (bytes : List ℕ) → sort_of (quoted bytes) ≡ sort.Quoted
unfolding sort_of
quoted_sort bytes = refl

texture_by_test : (name : List ℕ) (needs : Bool) → needs_quotes name ≡ needs → IsNameText name ⊎ HasNoQuote name →
    Stand (slot.Texture ∷ []) ((if needs then quoted name else word_symbol name) ∷ []) [] (name ∷ [])
texture_by_test name true e valid = stand_one (quoted_texture (quoted_sort name)) (texture_quotable name e valid)
texture_by_test name false e valid =
    let plain = plain_by_test name e in
    stand_one (texture (name_sort name plain.no_mark)) (texture_opens name plain valid, plain.visible)

texture_stand : (name : List ℕ) → IsNameText name ⊎ HasNoQuote name → Stand (slot.Texture ∷ []) (texture_symbol name ∷ []) [] (name ∷ [])
unfolding texture_symbol
texture_stand name valid = texture_by_test name (needs_quotes name) refl valid

-- the items of lists of three, five and eleven items
record Three {X : Type 0} (xs : List X) : Type 0 where
  a : X
  b : X
  c : X
  list : xs ≡ a ∷ b ∷ c ∷ []

three : {X : Type 0} (xs : List X) → length xs ≡ 3 → Three xs
three [] e = absurd (omega (arith, e))
three (a ∷ []) e = absurd (omega (arith, e))
three (a ∷ b ∷ []) e = absurd (omega (arith, e))
three (a ∷ b ∷ c ∷ []) e = record { a = a; b = b; c = c; list = refl }
three (a ∷ b ∷ c ∷ d ∷ others) e = absurd (omega (arith, e))

-- three points whose symbols stand
record PointsAgain (points : List (List ℤ)) : Type 0 where
  numbers : List ℤ
  stand : Stand (point_slots ++ (point_slots ++ point_slots)) (flat_map point_symbols points) numbers []
  same : points_of numbers ≡ points

nine_again : (a b c d e f g h i : ℤ) → All IsThousandths (a ∷ b ∷ c ∷ []) → All IsThousandths (d ∷ e ∷ f ∷ []) → All IsThousandths (g ∷ h ∷ i ∷ []) →
    PointsAgain ((a ∷ b ∷ c ∷ []) ∷ (d ∷ e ∷ f ∷ []) ∷ (g ∷ h ∷ i ∷ []) ∷ [])
unfolding point_symbols
nine_again a b c d e f g h i first second third = record {
  numbers = a ∷ b ∷ c ∷ d ∷ e ∷ f ∷ g ∷ h ∷ i ∷ [];
  stand =
      join (point_stand a b c (first 0 a (lit< tt)) (first 1 a (lit< tt)) (first 2 a (lit< tt)))
      (join (point_stand d e f (second 0 a (lit< tt)) (second 1 a (lit< tt)) (second 2 a (lit< tt)))
      (point_stand g h i (third 0 a (lit< tt)) (third 1 a (lit< tt)) (third 2 a (lit< tt))));
  same = refl;
}

rows_again : (p q r : List ℤ) → Three p → Three q → Three r → All IsThousandths p → All IsThousandths q → All IsThousandths r →
    PointsAgain (p ∷ q ∷ r ∷ [])
rows_again p q r first second third in_p in_q in_r =
    let Coordinates : List ℤ → Type 0 = All IsThousandths in
    let p3 : List ℤ = first.a ∷ first.b ∷ first.c ∷ [] in
    let q3 : List ℤ = second.a ∷ second.b ∷ second.c ∷ [] in
    let nine = nine_again first.a first.b first.c second.a second.b second.c third.a third.b third.c
    (subst Coordinates first.list in_p) (subst Coordinates second.list in_q) (subst Coordinates third.list in_r) in
    subst (λ x. PointsAgain (x ∷ q ∷ r ∷ [])) (sym first.list)
    (subst (λ y. PointsAgain (p3 ∷ y ∷ r ∷ [])) (sym second.list)
    (subst (λ z. PointsAgain (p3 ∷ q3 ∷ z ∷ [])) (sym third.list) nine))

points_again : (points : List (List ℤ)) → length points ≡ 3 → All (λ p. length p ≡ 3) points → All AreThousandths points → PointsAgain points
points_again [] e triples coordinates = absurd (omega (arith, e))
points_again (p ∷ []) e triples coordinates = absurd (omega (arith, e))
points_again (p ∷ q ∷ []) e triples coordinates = absurd (omega (arith, e))
points_again (p ∷ q ∷ r ∷ []) e triples coordinates =
    rows_again p q r (three p (triples 0 p (lit< tt))) (three q (triples 1 p (lit< tt))) (three r (triples 2 p (lit< tt)))
    (coordinates 0 p (lit< tt)) (coordinates 1 p (lit< tt)) (coordinates 2 p (lit< tt))
points_again (p ∷ q ∷ r ∷ t ∷ others) e triples coordinates = absurd (omega (arith, e))

-- a mapping whose symbols stand
record MappingAgain (mapping : Mapping) : Type 0 where
  form : Form
  texts : List (List ℕ)
  stand : Stand (mapping_slots form) (mapping_prefix mapping ++ mapping_last mapping ∷ []) [] texts
  same : mapping_of texts ≡ mapping

five_again : (a b c d e : List ℕ) → All IsNameText (a ∷ b ∷ c ∷ d ∷ e ∷ []) → MappingAgain (Standard (a ∷ b ∷ c ∷ d ∷ e ∷ []))
unfolding mapping_prefix mapping_last
five_again a b c d e names = record {
  form = standard;
  texts = a ∷ b ∷ c ∷ d ∷ e ∷ [];
  stand =
      join (word_stand a (names 0 a (lit< tt))) (join (word_stand b (names 1 a (lit< tt))) (join (word_stand c (names 2 a (lit< tt)))
      (join (word_stand d (names 3 a (lit< tt))) (word_stand e (names 4 a (lit< tt))))));
  same = refl;
}

eleven_again : (a b c d e f g h i j k : List ℕ) → All IsNameText (a ∷ b ∷ c ∷ d ∷ e ∷ f ∷ g ∷ h ∷ i ∷ j ∷ k ∷ []) →
    MappingAgain (Valve (a ∷ b ∷ c ∷ d ∷ e ∷ f ∷ g ∷ h ∷ i ∷ j ∷ k ∷ []))
unfolding mapping_prefix mapping_last
eleven_again a b c d e f g h i j k names = record {
  form = valve;
  texts = a ∷ b ∷ c ∷ d ∷ e ∷ f ∷ g ∷ h ∷ i ∷ j ∷ k ∷ [];
  stand =
      join (axis_stand a b c d (names 0 a (lit< tt)) (names 1 a (lit< tt)) (names 2 a (lit< tt)) (names 3 a (lit< tt)))
      (join (axis_stand e f g h (names 4 a (lit< tt)) (names 5 a (lit< tt)) (names 6 a (lit< tt)) (names 7 a (lit< tt)))
      (join (word_stand i (names 8 a (lit< tt))) (join (word_stand j (names 9 a (lit< tt))) (word_stand k (names 10 a (lit< tt))))));
  same = refl;
}

standard_again : (words : List (List ℕ)) → length words ≡ 5 → All IsNameText words → MappingAgain (Standard words)
standard_again [] count names = absurd (omega (arith, count))
standard_again (a ∷ []) count names = absurd (omega (arith, count))
standard_again (a ∷ b ∷ []) count names = absurd (omega (arith, count))
standard_again (a ∷ b ∷ c ∷ []) count names = absurd (omega (arith, count))
standard_again (a ∷ b ∷ c ∷ d ∷ []) count names = absurd (omega (arith, count))
standard_again (a ∷ b ∷ c ∷ d ∷ e ∷ []) count names = five_again a b c d e names
standard_again (a ∷ b ∷ c ∷ d ∷ e ∷ f ∷ others) count names = absurd (omega (arith, count))

valve_again : (words : List (List ℕ)) → length words ≡ 11 → All IsNameText words → MappingAgain (Valve words)
valve_again [] count names = absurd (omega (arith, count))
valve_again (a ∷ []) count names = absurd (omega (arith, count))
valve_again (a ∷ b ∷ []) count names = absurd (omega (arith, count))
valve_again (a ∷ b ∷ c ∷ []) count names = absurd (omega (arith, count))
valve_again (a ∷ b ∷ c ∷ d ∷ []) count names = absurd (omega (arith, count))
valve_again (a ∷ b ∷ c ∷ d ∷ e ∷ []) count names = absurd (omega (arith, count))
valve_again (a ∷ b ∷ c ∷ d ∷ e ∷ f ∷ []) count names = absurd (omega (arith, count))
valve_again (a ∷ b ∷ c ∷ d ∷ e ∷ f ∷ g ∷ []) count names = absurd (omega (arith, count))
valve_again (a ∷ b ∷ c ∷ d ∷ e ∷ f ∷ g ∷ h ∷ []) count names = absurd (omega (arith, count))
valve_again (a ∷ b ∷ c ∷ d ∷ e ∷ f ∷ g ∷ h ∷ i ∷ []) count names = absurd (omega (arith, count))
valve_again (a ∷ b ∷ c ∷ d ∷ e ∷ f ∷ g ∷ h ∷ i ∷ j ∷ []) count names = absurd (omega (arith, count))
valve_again (a ∷ b ∷ c ∷ d ∷ e ∷ f ∷ g ∷ h ∷ i ∷ j ∷ k ∷ []) count names = eleven_again a b c d e f g h i j k names
valve_again (a ∷ b ∷ c ∷ d ∷ e ∷ f ∷ g ∷ h ∷ i ∷ j ∷ k ∷ l ∷ others) count names = absurd (omega (arith, count))

mapping_again : (mapping : Mapping) → HasWords mapping → All IsNameText (words_of_mapping mapping) → MappingAgain mapping
mapping_again (Standard words) count names = standard_again words count names
mapping_again (Valve words) count names = valve_again words count names

-- a face whose line spells it and can be written
pub record FaceAgain (face : Face) : Type 0 where
  pub spelled : SpellsFace (symbols_of_line (face_line face)) face
  pub writable : IsWritableLine (face_line face)

pub face_again : (face : Face) → IsValidFace face → FaceAgain face
unfolding face_line
face_again face valid =
    let points = points_again face.points valid.three valid.triples valid.coordinates in
    let mapping = mapping_again face.mapping valid.count_of_words valid.words in
    let all = join points.stand (join (texture_stand face.texture valid.texture) mapping.stand) in
    let prefix : List Symbol = flat_map point_symbols face.points in
    let tail : List Symbol = texture_symbol face.texture ∷ mapping_prefix face.mapping in
    let last : List Symbol = mapping_last face.mapping ∷ [] in
    let same : (prefix ++ tail) ++ last ≡ prefix ++ (tail ++ last) = append_assoc prefix tail last in
    record {
      spelled = record {
        form = mapping.form;
        numbers = points.numbers;
        texts = face.texture ∷ mapping.texts;
        filled =
            (let P : List ℤ → Type 0 = λ ns. Fill (face_slots mapping.form) (prefix ++ (tail ++ last)) ns (face.texture ∷ mapping.texts) in
            let Q : List Symbol → Type 0 = λ ss. Fill (face_slots mapping.form) ss points.numbers (face.texture ∷ mapping.texts) in
            subst Q (sym same) (subst P (append-nil points.numbers) all.fill));
        is_face =
            (let with_points : List (List ℤ) → Face = λ ps. record { points = ps; texture = face.texture; mapping = face.mapping } in
            let with_mapping : Mapping → Face = λ m. record { points = points_of points.numbers; texture = face.texture; mapping = m } in
            ap with_points (sym points.same) ∙ ap with_mapping (sym mapping.same));
        plane = valid.plane;
      };
      writable = subst (AllByRecursion IsWritable) (sym same) all.writable;
    }
