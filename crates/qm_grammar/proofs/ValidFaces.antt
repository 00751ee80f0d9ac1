-- A face that is spelled is valid.
use Rattle.std.proofs.Common.{◌≡◌, ℕ, ◌≤◌, Bool, true, false, ◌&&◌, ◌==◌, ◌⊎◌, inl, inr, ℤ, List, [], ◌∷◌, ◌++◌, length, refl, sym, subst, ◌∙◌, length-append, arith, if◌then◌else◌}
use Rattle.std.specs.Prelude.{All}
use Rattle.std.proofs.lemmas.Bool.{and_parts, eq-eqb, ne_eqb}
use Rattle.std.proofs.lemmas.List.Elements.{All-nil, All-cons, All-head, All-tail, All-append}
use Rattle.qm_lists.proofs.Elements.{All-last_part}
use Rattle.qm_space.specs.Point.{IsThousandths, AreThousandths}
use Rattle.qm_mapfile.specs.declared.face.Face.{Face}
use Rattle.qm_mapfile.specs.Face.{HasPlane}
use Rattle.qm_mapfile.specs.declared.face.Mapping.TheVariants.{Standard, Valve}
use Rattle.qm_grammar.specs.declared.slot.Slot.{Slot}
use Rattle.qm_grammar.specs.declared.slot.Slot.TheVariants as slot
use Rattle.qm_grammar.specs.Symbol.{Symbol}
use Rattle.qm_grammar.specs.Slots.{Form, standard, valve, head_slots, mapping_slots, face_slots, Fills, mark, coordinate, texture, quoted_texture, word, Fill, none, more, points_of, mapping_of, face_of}
use Rattle.qm_grammar.specs.Grammar.{SpellsFace}
use Rattle.qm_grammar.specs.Valid.{HasNoQuote, IsNameText, words_of_mapping, HasWords, IsValidFace}
use Rattle.qm_grammar.proofs.Filling.{coordinates, texts_in, numbers_filled, texts_filled, symbols_filled, FillParts, fill_cut}
use Rattle.qm_grammar.proofs.Parts.{all_prefix}
use Rattle.qm_grammar.proofs.TokenTexts.{IsTokenText, name_text, quoted_text}

-- ---- what the slots of a row give

number_valid : {one : Slot} {symbol : Symbol} {number : List ℤ} {text : List (List ℕ)} → Fills one symbol number text → All IsThousandths number
number_valid (mark is) = All-nil IsThousandths
number_valid (coordinate {number = c} is spells) = All-cons IsThousandths c [] spells.in_range (All-nil IsThousandths)
number_valid (texture is) = All-nil IsThousandths
number_valid (quoted_texture is) = All-nil IsThousandths
number_valid (word is) = All-nil IsThousandths

numbers_valid : {slots : List Slot} {symbols : List Symbol} {numbers : List ℤ} {texts : List (List ℕ)} → Fill slots symbols numbers texts → All IsThousandths numbers
numbers_valid none = All-nil IsThousandths
numbers_valid (more {number = number} {numbers = numbers} fills rest) = All-append IsThousandths number numbers (number_valid fills) (numbers_valid rest)

-- a text of a texture
abbrev IsTextureText : List ℕ → Type 0
IsTextureText bytes = IsNameText bytes ⊎ HasNoQuote bytes

texture_valid : {one : Slot} {symbol : Symbol} {number : List ℤ} {text : List (List ℕ)} → Fills one symbol number text → IsTokenText symbol → All IsTextureText text
texture_valid (mark is) token = All-nil IsTextureText
texture_valid (coordinate is spells) token = All-nil IsTextureText
texture_valid (texture {symbol = symbol} is) token = All-cons IsTextureText symbol.bytes [] (inl (name_text symbol token is)) (All-nil IsTextureText)
texture_valid (quoted_texture {symbol = symbol} is) token = All-cons IsTextureText symbol.bytes [] (inr (quoted_text symbol token is)) (All-nil IsTextureText)
texture_valid (word {symbol = symbol} is) token = All-cons IsTextureText symbol.bytes [] (inl (name_text symbol token is)) (All-nil IsTextureText)

textures_valid : {slots : List Slot} {symbols : List Symbol} {numbers : List ℤ} {texts : List (List ℕ)} → Fill slots symbols numbers texts → All IsTokenText symbols → All IsTextureText texts
textures_valid none tokens = All-nil IsTextureText
textures_valid (more {symbol = symbol} {symbols = symbols} {text = text} {texts = texts} fills rest) tokens =
    All-append IsTextureText text texts (texture_valid fills (All-head IsTokenText symbol symbols tokens)) (textures_valid rest (All-tail IsTokenText symbol symbols tokens))

abbrev is_no_texture : Slot → Bool
is_no_texture slot.Texture = false
is_no_texture _ = true

abbrev no_textures : List Slot → Bool
no_textures [] = true
no_textures (one ∷ slots) = is_no_texture one && no_textures slots

word_valid : {one : Slot} {symbol : Symbol} {number : List ℤ} {text : List (List ℕ)} → Fills one symbol number text → is_no_texture one ≡ true → IsTokenText symbol → All IsNameText text
word_valid (mark is) plain token = All-nil IsNameText
word_valid (coordinate is spells) plain token = All-nil IsNameText
word_valid (texture is) plain token = absurd cc
word_valid (quoted_texture is) plain token = absurd cc
word_valid (word {symbol = symbol} is) plain token = All-cons IsNameText symbol.bytes [] (name_text symbol token is) (All-nil IsNameText)

words_valid : {slots : List Slot} {symbols : List Symbol} {numbers : List ℤ} {texts : List (List ℕ)} → Fill slots symbols numbers texts → no_textures slots ≡ true → All IsTokenText symbols → All IsNameText texts
words_valid none plain tokens = All-nil IsNameText
words_valid (more {one = one} {slots = slots} {symbol = symbol} {symbols = symbols} {text = text} {texts = texts} fills rest) plain tokens =
    let both = and_parts (is_no_texture one) (no_textures slots) plain in
    All-append IsNameText text texts (word_valid fills both.0 (All-head IsTokenText symbol symbols tokens)) (words_valid rest both.1 (All-tail IsTokenText symbol symbols tokens))

-- ---- three points

record ArePoints (points : List (List ℤ)) : Type 0 where
  three : length points ≡ 3
  triples : All (λ point. length point ≡ 3) points
  inside : All AreThousandths points

of_three : {X : Type 0} (P : X → Type 0) (a b c : X) → P a → P b → P c → All P (a ∷ b ∷ c ∷ [])
of_three P a b c is_a is_b is_c = All-cons P a (b ∷ c ∷ []) is_a (All-cons P b (c ∷ []) is_b (All-cons P c [] is_c (All-nil P)))

first_three : (a b c : ℤ) (rest : List ℤ) → All IsThousandths (a ∷ b ∷ c ∷ rest) → AreThousandths (a ∷ b ∷ c ∷ []) × All IsThousandths rest
first_three a b c rest all =
    let second = All-tail IsThousandths a (b ∷ c ∷ rest) all in
    let third = All-tail IsThousandths b (c ∷ rest) second in (
      of_three IsThousandths a b c (All-head IsThousandths a (b ∷ c ∷ rest) all) (All-head IsThousandths b (c ∷ rest) second) (All-head IsThousandths c rest third),
      All-tail IsThousandths c rest third,
    )

points_valid : (numbers : List ℤ) → length numbers ≡ 9 → All IsThousandths numbers → ArePoints (points_of numbers)
points_valid (a ∷ b ∷ c ∷ d ∷ e ∷ f ∷ g ∷ h ∷ i ∷ []) count all =
    let first = first_three a b c (d ∷ e ∷ f ∷ g ∷ h ∷ i ∷ []) all in
    let second = first_three d e f (g ∷ h ∷ i ∷ []) first.1 in
    let third = first_three g h i [] second.1 in
    record {
      three = refl;
      triples = of_three (λ (point : List ℤ). length point ≡ 3) (a ∷ b ∷ c ∷ []) (d ∷ e ∷ f ∷ []) (g ∷ h ∷ i ∷ []) refl refl refl;
      inside = of_three AreThousandths (a ∷ b ∷ c ∷ []) (d ∷ e ∷ f ∷ []) (g ∷ h ∷ i ∷ []) first.0 second.0 third.0;
    }
points_valid numbers count all = absurd (omega arith)

-- ---- the mapping

mapping_counted : (form : Form) (words : List (List ℕ)) → length words ≡ texts_in (mapping_slots form) → HasWords (mapping_of words)
mapping_counted standard words count = rw (ne_eqb (length words) 11 (λ e. absurd (omega arith))) count
mapping_counted valve words count = rw (eq-eqb (length words) 11 count) count

mapping_words : (words : List (List ℕ)) → All IsNameText words → All IsNameText (words_of_mapping (mapping_of words))
mapping_words words all = words_by (length words == 11)
  where
    words_by : (t : Bool) → All IsNameText (words_of_mapping (if t then Valve words else Standard words))
    words_by true = all
    words_by false = all

mapping_plain : (form : Form) → no_textures (mapping_slots form) ≡ true
mapping_plain standard = refl
mapping_plain valve = refl

nine_taken : (form : Form) → coordinates (face_slots form) ≡ 9
nine_taken standard = refl
nine_taken valve = refl

-- ---- the face

-- the texts of a head are its texture
face_valid_by : (form : Form) (numbers : List ℤ) (head words texts : List (List ℕ)) → length head ≡ 1 → texts ≡ head ++ words → All IsTextureText head → All IsNameText words → length words ≡ texts_in (mapping_slots form) → ArePoints (points_of numbers) → HasPlane (face_of numbers texts) → IsValidFace (face_of numbers texts)
face_valid_by form numbers (name ∷ []) words texts one is textures names count points plane =
    subst (λ (l : List (List ℕ)). HasPlane (face_of numbers l) → IsValidFace (face_of numbers l)) (sym is)
    (λ (p : HasPlane (face_of numbers (name ∷ words))). record {
      three = points.three;
      triples = points.triples;
      coordinates = points.inside;
      plane = p;
      texture = All-head IsTextureText name [] textures;
      count_of_words = mapping_counted form words count;
      words = mapping_words words names;
    })
    plane
face_valid_by form numbers head words texts one is textures names count points plane = absurd (omega arith)

pub face_valid : (symbols : List Symbol) (face : Face) → SpellsFace symbols face → All IsTokenText symbols → IsValidFace face
face_valid symbols face spells tokens =
    let form = spells.form in
    let cut : FillParts head_slots (mapping_slots form) symbols spells.numbers spells.texts = fill_cut head_slots (mapping_slots form) symbols spells.numbers spells.texts spells.filled in
    let parts : All IsTokenText (cut.symbols_first ++ cut.symbols_then) = subst (All IsTokenText) cut.symbols_are tokens in
    let nine : length spells.numbers ≡ 9 = numbers_filled spells.filled ∙ nine_taken form in
    subst IsValidFace (sym spells.is_face)
    (face_valid_by form spells.numbers cut.texts_first cut.texts_then spells.texts (texts_filled cut.first) cut.texts_are
    (textures_valid cut.first (all_prefix IsTokenText cut.symbols_first cut.symbols_then parts))
    (words_valid cut.rest (mapping_plain form) (All-last_part IsTokenText cut.symbols_first cut.symbols_then parts))
    (texts_filled cut.rest)
    (points_valid spells.numbers nine (numbers_valid spells.filled))
    (subst HasPlane spells.is_face spells.plane))

-- a face has a token
pub face_counted : (symbols : List Symbol) (face : Face) → SpellsFace symbols face → 1 ≤ length symbols
face_counted symbols face spells = let count = symbols_filled spells.filled ∙ length-append head_slots (mapping_slots spells.form) in omega arith
