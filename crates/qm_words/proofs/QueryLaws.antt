-- Words of queries.
use Rattle.std.proofs.Common.{◌≡◌, ◌∙◌, ◌<◌, ◌+◌, ◌^◌, ◌==◌, ℕ, ℤ, codes, true, false, refl, sym, ap, append_assoc, subst, arith, List, [], ◌∷◌, ◌++◌, drop, length, get_or, zero, suc, ⊎_elim}
use Rattle.std.specs.Fmt.{decimal}
use Rattle.std.proofs.lemmas.Bool.Decides.{Decides-eqb}
use Rattle.qm_commands.specs.FileNames.{IsFileName}
use Rattle.qm_commands.specs.QueryWord.{AreEndNumbers, ArePlaceNumbers, AreQueryWords, IsHullNumber, IsPlaceWord, IsQueryWord, IsShort, IsTraceWord, hull_name, hull_trace_name, no_more, one_more}
use Rattle.qm_commands.specs.declared.millionths.Millionths.{Millionths}
use Rattle.qm_commands.specs.declared.query.Query.{Query}
use Rattle.qm_commands.specs.declared.query.Query.TheVariants.{Count, At, Hull, Trace, HullTrace, Model, ModelAt, Faces, Face, Row, Sees, Parts}
use Rattle.qm_words.specs.inner.PlainWords.{ArePlainWords}
use Rattle.qm_words.specs.inner.PlacesRead.{IsCommaSplit}
use Rattle.qm_words.proofs.Commas.{clear_decimal}

-- texts that begin with different bytes
pub apart : (x y : ℕ) (xs ys : List ℕ) → (x == y) ≡ false → x ∷ xs ≡ y ∷ ys → ⊥
apart x y xs ys differ same =
    let heads : x ≡ y = cc in
    let clash : false ≡ true = sym differ ∙ (Decides-eqb x y).1 heads in absurd cc

pub fits : (n : ℕ) → IsShort n → n < 2 ^ 64
fits n short = omega (arith, short)

-- ---- the words of hulls

-- the number of a hull stands at a place of its words
abbrev TellsHull : (ℕ → List ℕ) → ℕ → Type 0
TellsHull name place = (hull : ℕ) → IsHullNumber hull → (text : List ℕ) → drop place (name hull ++ text) ≡ (48 + hull) ∷ 44 ∷ text

by_hull : (name : ℕ → List ℕ) (place : ℕ) → ((text : List ℕ) → drop place (name 1 ++ text) ≡ 49 ∷ 44 ∷ text) → ((text : List ℕ) → drop place (name 2 ++ text) ≡ 50 ∷ 44 ∷ text) → TellsHull name place
by_hull name place first second hull is text = ⊎_elim
    (λ (one : hull ≡ 1). subst (λ (h : ℕ). drop place (name h ++ text) ≡ (48 + h) ∷ 44 ∷ text) (sym one) (first text))
    (λ (two : hull ≡ 2). subst (λ (h : ℕ). drop place (name h ++ text) ≡ (48 + h) ∷ 44 ∷ text) (sym two) (second text)) is

-- a word names one hull
same_told : (name : ℕ → List ℕ) (place : ℕ) → TellsHull name place → (hull other : ℕ) → IsHullNumber hull → IsHullNumber other
    → (text numbers : List ℕ) → name hull ++ text ≡ name other ++ numbers → (hull ≡ other) × (text ≡ numbers)
same_told name place tells hull other is also text numbers same =
    let told : (48 + hull) ∷ 44 ∷ text ≡ (48 + other) ∷ 44 ∷ numbers = sym (tells hull is text) ∙ ap (drop place) same ∙ tells other also numbers in
    let heads : 48 + hull ≡ 48 + other = cc in
    (omega (arith, heads), ap (drop 2) told)

pub same_hull : (hull other : ℕ) → IsHullNumber hull → IsHullNumber other → (text numbers : List ℕ) → hull_name hull ++ text ≡ hull_name other ++ numbers → (hull ≡ other) × (text ≡ numbers)
same_hull = same_told hull_name 5 (by_hull hull_name 5 (λ text. refl) (λ text. refl))

pub same_hull_trace : (hull other : ℕ) → IsHullNumber hull → IsHullNumber other → (text numbers : List ℕ) → hull_trace_name hull ++ text ≡ hull_trace_name other ++ numbers → (hull ≡ other) × (text ≡ numbers)
same_hull_trace = same_told hull_trace_name 10 (by_hull hull_trace_name 10 (λ text. refl) (λ text. refl))

-- the words of a hull begin with an h, and their fifth byte tells a trace
pub hull_head : (hull : ℕ) (text : List ℕ) → hull_name hull ++ text ≡ 104 ∷ 117 ∷ 108 ∷ 108 ∷ 61 ∷ drop 5 (hull_name hull ++ text)
hull_head zero text = refl
hull_head (suc zero) text = refl
hull_head (suc (suc n)) text = refl

pub hull_trace_head : (hull : ℕ) (text : List ℕ) → hull_trace_name hull ++ text ≡ 104 ∷ 117 ∷ 108 ∷ 108 ∷ 116 ∷ drop 5 (hull_trace_name hull ++ text)
hull_trace_head zero text = refl
hull_trace_head (suc zero) text = refl
hull_trace_head (suc (suc n)) text = refl

pub no_trace_of_hull : (hull other : ℕ) (text numbers : List ℕ) → hull_name hull ++ text ≡ hull_trace_name other ++ numbers → ⊥
no_trace_of_hull hull other text numbers same = apart 61 116 _ _ refl (ap (drop 4) (sym (hull_head hull text) ∙ same ∙ hull_trace_head other numbers))

-- a word that begins with another byte is none
pub no_hull_word : (byte : ℕ) (bytes : List ℕ) (hull : ℕ) (x y z : ℤ) → (byte == 104) ≡ false → IsPlaceWord (hull_name hull) (byte ∷ bytes) x y z → ⊥
no_hull_word byte bytes hull x y z differ is = apart byte 104 bytes _ differ (is.word_is ∙ hull_head hull is.numbers)

pub no_hull_trace_word : (byte : ℕ) (bytes : List ℕ) (hull : ℕ) (from to : Millionths) → (byte == 104) ≡ false → IsTraceWord (hull_trace_name hull) (byte ∷ bytes) from to → ⊥
no_hull_trace_word byte bytes hull from to differ is = apart byte 104 bytes _ differ (is.word_is ∙ hull_trace_head hull is.numbers)

-- ---- what a word's query is

-- the query of a word that begins with `at=` is a place
pub only_place : (text : List ℕ) (query : Query) (P : Query → Type 0) → ((x y z : ℤ) → ArePlaceNumbers text x y z → P (At x y z)) → IsQueryWord (codes "at=" ++ text) query → P query
only_place text Count P found is = absurd (apart 97 99 _ _ refl is)
only_place text (At x y z) P found is = found x y z (subst (λ (t : List ℕ). ArePlaceNumbers t x y z) (sym (ap (drop 3) is.word_is)) is.are_numbers)
only_place text (Hull hull x y z) P found is = absurd (no_hull_word 97 _ hull x y z refl is.1)
only_place text (Trace from to) P found is = absurd (apart 97 116 _ _ refl is.word_is)
only_place text (HullTrace hull from to) P found is = absurd (no_hull_trace_word 97 _ hull from to refl is.1)
only_place text (Model entity) P found is = absurd (apart 97 109 _ _ refl is.0)
only_place text (ModelAt entity x y z) P found is = absurd (apart 97 109 _ _ refl is.1.word_is)
only_place text Faces P found is = absurd (apart 97 102 _ _ refl is)
only_place text (Face n) P found is = absurd (apart 97 102 _ _ refl is.0)
only_place text (Row n) P found is = absurd (apart 97 114 _ _ refl is.0)
only_place text (Sees n m) P found is = absurd (apart 97 115 _ _ refl is.0)
only_place text Parts P found is = absurd (apart 97 112 _ _ refl is)

-- the query of a word that begins with the name of a hull asks this hull
pub only_hull : (hull : ℕ) (text : List ℕ) (query : Query) (P : Query → Type 0) → IsHullNumber hull → ((x y z : ℤ) → ArePlaceNumbers text x y z → P (Hull hull x y z)) → IsQueryWord (hull_name hull ++ text) query → P query
only_hull hull text Count P number found is = absurd (apart 104 99 _ _ refl (sym (hull_head hull text) ∙ is))
only_hull hull text (At x y z) P number found is = absurd (apart 104 97 _ _ refl (sym (hull_head hull text) ∙ is.word_is))
only_hull hull text (Hull other x y z) P number found is =
    let same = same_hull hull other number is.0 text is.1.numbers is.1.word_is in
    subst (λ (h : ℕ). P (Hull h x y z)) same.0 (found x y z (subst (λ (t : List ℕ). ArePlaceNumbers t x y z) (sym same.1) is.1.are_numbers))
only_hull hull text (Trace from to) P number found is = absurd (apart 104 116 _ _ refl (sym (hull_head hull text) ∙ is.word_is))
only_hull hull text (HullTrace other from to) P number found is = absurd (no_trace_of_hull hull other text is.1.numbers is.1.word_is)
only_hull hull text (Model entity) P number found is = absurd (apart 104 109 _ _ refl (sym (hull_head hull text) ∙ is.0))
only_hull hull text (ModelAt entity x y z) P number found is = absurd (apart 104 109 _ _ refl (sym (hull_head hull text) ∙ is.1.word_is))
only_hull hull text Faces P number found is = absurd (apart 104 102 _ _ refl (sym (hull_head hull text) ∙ is))
only_hull hull text (Face n) P number found is = absurd (apart 104 102 _ _ refl (sym (hull_head hull text) ∙ is.0))
only_hull hull text (Row n) P number found is = absurd (apart 104 114 _ _ refl (sym (hull_head hull text) ∙ is.0))
only_hull hull text (Sees n m) P number found is = absurd (apart 104 115 _ _ refl (sym (hull_head hull text) ∙ is.0))
only_hull hull text Parts P number found is = absurd (apart 104 112 _ _ refl (sym (hull_head hull text) ∙ is))

-- the query of a word that begins with `trace=` is a trace
pub only_trace : (text : List ℕ) (query : Query) (P : Query → Type 0) → ((from to : Millionths) → AreEndNumbers text from to → P (Trace from to)) → IsQueryWord (codes "trace=" ++ text) query → P query
only_trace text Count P found is = absurd (apart 116 99 _ _ refl is)
only_trace text (At x y z) P found is = absurd (apart 116 97 _ _ refl is.word_is)
only_trace text (Hull hull x y z) P found is = absurd (no_hull_word 116 _ hull x y z refl is.1)
only_trace text (Trace from to) P found is = found from to (subst (λ (t : List ℕ). AreEndNumbers t from to) (sym (ap (drop 6) is.word_is)) is.are_ends)
only_trace text (HullTrace hull from to) P found is = absurd (no_hull_trace_word 116 _ hull from to refl is.1)
only_trace text (Model entity) P found is = absurd (apart 116 109 _ _ refl is.0)
only_trace text (ModelAt entity x y z) P found is = absurd (apart 116 109 _ _ refl is.1.word_is)
only_trace text Faces P found is = absurd (apart 116 102 _ _ refl is)
only_trace text (Face n) P found is = absurd (apart 116 102 _ _ refl is.0)
only_trace text (Row n) P found is = absurd (apart 116 114 _ _ refl is.0)
only_trace text (Sees n m) P found is = absurd (apart 116 115 _ _ refl is.0)
only_trace text Parts P found is = absurd (apart 116 112 _ _ refl is)

-- and of one that begins with a trace through a hull such a trace
pub only_hull_trace : (hull : ℕ) (text : List ℕ) (query : Query) (P : Query → Type 0) → IsHullNumber hull → ((from to : Millionths) → AreEndNumbers text from to → P (HullTrace hull from to)) → IsQueryWord (hull_trace_name hull ++ text) query → P query
only_hull_trace hull text Count P number found is = absurd (apart 104 99 _ _ refl (sym (hull_trace_head hull text) ∙ is))
only_hull_trace hull text (At x y z) P number found is = absurd (apart 104 97 _ _ refl (sym (hull_trace_head hull text) ∙ is.word_is))
only_hull_trace hull text (Hull other x y z) P number found is = absurd (no_trace_of_hull other hull is.1.numbers text (sym is.1.word_is))
only_hull_trace hull text (Trace from to) P number found is = absurd (apart 104 116 _ _ refl (sym (hull_trace_head hull text) ∙ is.word_is))
only_hull_trace hull text (HullTrace other from to) P number found is =
    let same = same_hull_trace hull other number is.0 text is.1.numbers is.1.word_is in
    subst (λ (h : ℕ). P (HullTrace h from to)) same.0 (found from to (subst (λ (t : List ℕ). AreEndNumbers t from to) (sym same.1) is.1.are_ends))
only_hull_trace hull text (Model entity) P number found is = absurd (apart 104 109 _ _ refl (sym (hull_trace_head hull text) ∙ is.0))
only_hull_trace hull text (ModelAt entity x y z) P number found is = absurd (apart 104 109 _ _ refl (sym (hull_trace_head hull text) ∙ is.1.word_is))
only_hull_trace hull text Faces P number found is = absurd (apart 104 102 _ _ refl (sym (hull_trace_head hull text) ∙ is))
only_hull_trace hull text (Face n) P number found is = absurd (apart 104 102 _ _ refl (sym (hull_trace_head hull text) ∙ is.0))
only_hull_trace hull text (Row n) P number found is = absurd (apart 104 114 _ _ refl (sym (hull_trace_head hull text) ∙ is.0))
only_hull_trace hull text (Sees n m) P number found is = absurd (apart 104 115 _ _ refl (sym (hull_trace_head hull text) ∙ is.0))
only_hull_trace hull text Parts P number found is = absurd (apart 104 112 _ _ refl (sym (hull_trace_head hull text) ∙ is))

pub only_face : (text : List ℕ) (query : Query) (P : Query → Type 0) → ((n : ℕ) → text ≡ decimal n → IsShort n → P (Face n)) → IsQueryWord (codes "face=" ++ text) query → P query
only_face text Count P found is = absurd (apart 102 99 _ _ refl is)
only_face text (At x y z) P found is = absurd (apart 102 97 _ _ refl is.word_is)
only_face text (Hull hull x y z) P found is = absurd (no_hull_word 102 _ hull x y z refl is.1)
only_face text (Trace from to) P found is = absurd (apart 102 116 _ _ refl is.word_is)
only_face text (HullTrace hull from to) P found is = absurd (no_hull_trace_word 102 _ hull from to refl is.1)
only_face text (Model entity) P found is = absurd (apart 102 109 _ _ refl is.0)
only_face text (ModelAt entity x y z) P found is = absurd (apart 102 109 _ _ refl is.1.word_is)
only_face text Faces P found is = absurd (apart 61 115 _ _ refl (ap (drop 4) is))
only_face text (Face n) P found is = let same : text ≡ decimal n = let whole = is.0 in cc in found n same is.1
only_face text (Row n) P found is = absurd (apart 102 114 _ _ refl is.0)
only_face text (Sees n m) P found is = absurd (apart 102 115 _ _ refl is.0)
only_face text Parts P found is = absurd (apart 102 112 _ _ refl is)

pub only_row : (text : List ℕ) (query : Query) (P : Query → Type 0) → ((n : ℕ) → text ≡ decimal n → IsShort n → P (Row n)) → IsQueryWord (codes "row=" ++ text) query → P query
only_row text Count P found is = absurd (apart 114 99 _ _ refl is)
only_row text (At x y z) P found is = absurd (apart 114 97 _ _ refl is.word_is)
only_row text (Hull hull x y z) P found is = absurd (no_hull_word 114 _ hull x y z refl is.1)
only_row text (Trace from to) P found is = absurd (apart 114 116 _ _ refl is.word_is)
only_row text (HullTrace hull from to) P found is = absurd (no_hull_trace_word 114 _ hull from to refl is.1)
only_row text (Model entity) P found is = absurd (apart 114 109 _ _ refl is.0)
only_row text (ModelAt entity x y z) P found is = absurd (apart 114 109 _ _ refl is.1.word_is)
only_row text Faces P found is = absurd (apart 114 102 _ _ refl is)
only_row text (Face n) P found is = absurd (apart 114 102 _ _ refl is.0)
only_row text (Row n) P found is = let same : text ≡ decimal n = let whole = is.0 in cc in found n same is.1
only_row text (Sees n m) P found is = absurd (apart 114 115 _ _ refl is.0)
only_row text Parts P found is = absurd (apart 114 112 _ _ refl is)

pub only_sees : (text : List ℕ) (query : Query) (P : Query → Type 0) → ((n m : ℕ) → IsCommaSplit text (decimal n) (decimal m) → IsShort n → IsShort m → P (Sees n m)) → IsQueryWord (codes "sees=" ++ text) query → P query
only_sees text Count P found is = absurd (apart 115 99 _ _ refl is)
only_sees text (At x y z) P found is = absurd (apart 115 97 _ _ refl is.word_is)
only_sees text (Hull hull x y z) P found is = absurd (no_hull_word 115 _ hull x y z refl is.1)
only_sees text (Trace from to) P found is = absurd (apart 115 116 _ _ refl is.word_is)
only_sees text (HullTrace hull from to) P found is = absurd (no_hull_trace_word 115 _ hull from to refl is.1)
only_sees text (Model entity) P found is = absurd (apart 115 109 _ _ refl is.0)
only_sees text (ModelAt entity x y z) P found is = absurd (apart 115 109 _ _ refl is.1.word_is)
only_sees text Faces P found is = absurd (apart 115 102 _ _ refl is)
only_sees text (Face n) P found is = absurd (apart 115 102 _ _ refl is.0)
only_sees text (Row n) P found is = absurd (apart 115 114 _ _ refl is.0)
only_sees text (Sees n m) P found is =
    let same : text ≡ decimal n ++ (44 ∷ decimal m) = let whole = is.0 in cc in
    found n m (record { text_is = same; clear = clear_decimal n (fits n is.1) }) is.1 is.2
only_sees text Parts P found is = absurd (apart 115 112 _ _ refl is)

-- the query of a word that begins with `model=` is about the model of an entity
pub only_model : (text : List ℕ) (query : Query) (P : Query → Type 0) → ((entity : ℕ) → text ≡ decimal entity → IsShort entity → P (Model entity))
    → ((entity : ℕ) (numbers : List ℕ) (x y z : ℤ) → IsCommaSplit text (decimal entity) numbers → IsShort entity → ArePlaceNumbers numbers x y z → P (ModelAt entity x y z))
    → IsQueryWord (codes "model=" ++ text) query → P query
only_model text Count P alone at is = absurd (apart 109 99 _ _ refl is)
only_model text (At x y z) P alone at is = absurd (apart 109 97 _ _ refl is.word_is)
only_model text (Hull hull x y z) P alone at is = absurd (no_hull_word 109 _ hull x y z refl is.1)
only_model text (Trace from to) P alone at is = absurd (apart 109 116 _ _ refl is.word_is)
only_model text (HullTrace hull from to) P alone at is = absurd (no_hull_trace_word 109 _ hull from to refl is.1)
only_model text (Model entity) P alone at is = alone entity (ap (drop 6) is.0) is.1
only_model text (ModelAt entity x y z) P alone at is =
    let same : text ≡ decimal entity ++ (44 ∷ is.1.numbers) = ap (drop 6) is.1.word_is ∙ append_assoc (decimal entity) (44 ∷ []) is.1.numbers in
    at entity is.1.numbers x y z (record { text_is = same; clear = clear_decimal entity (fits entity is.0) }) is.0 is.1.are_numbers
only_model text Faces P alone at is = absurd (apart 109 102 _ _ refl is)
only_model text (Face n) P alone at is = absurd (apart 109 102 _ _ refl is.0)
only_model text (Row n) P alone at is = absurd (apart 109 114 _ _ refl is.0)
only_model text (Sees n m) P alone at is = absurd (apart 109 115 _ _ refl is.0)
only_model text Parts P alone at is = absurd (apart 109 112 _ _ refl is)

pub only_count : (query : Query) → IsQueryWord (codes "count") query → query ≡ Count
only_count Count is = refl
only_count (At x y z) is = absurd (apart 99 97 _ _ refl is.word_is)
only_count (Hull hull x y z) is = absurd (no_hull_word 99 _ hull x y z refl is.1)
only_count (Trace from to) is = absurd (apart 99 116 _ _ refl is.word_is)
only_count (HullTrace hull from to) is = absurd (no_hull_trace_word 99 _ hull from to refl is.1)
only_count (Model entity) is = absurd (apart 99 109 _ _ refl is.0)
only_count (ModelAt entity x y z) is = absurd (apart 99 109 _ _ refl is.1.word_is)
only_count Faces is = absurd (apart 99 102 _ _ refl is)
only_count (Face n) is = absurd (apart 99 102 _ _ refl is.0)
only_count (Row n) is = absurd (apart 99 114 _ _ refl is.0)
only_count (Sees n m) is = absurd (apart 99 115 _ _ refl is.0)
only_count Parts is = absurd (apart 99 112 _ _ refl is)

pub only_parts : (query : Query) → IsQueryWord (codes "parts") query → query ≡ Parts
only_parts Count is = absurd (apart 112 99 _ _ refl is)
only_parts (At x y z) is = absurd (apart 112 97 _ _ refl is.word_is)
only_parts (Hull hull x y z) is = absurd (no_hull_word 112 _ hull x y z refl is.1)
only_parts (Trace from to) is = absurd (apart 112 116 _ _ refl is.word_is)
only_parts (HullTrace hull from to) is = absurd (no_hull_trace_word 112 _ hull from to refl is.1)
only_parts (Model entity) is = absurd (apart 112 109 _ _ refl is.0)
only_parts (ModelAt entity x y z) is = absurd (apart 112 109 _ _ refl is.1.word_is)
only_parts Faces is = absurd (apart 112 102 _ _ refl is)
only_parts (Face n) is = absurd (apart 112 102 _ _ refl is.0)
only_parts (Row n) is = absurd (apart 112 114 _ _ refl is.0)
only_parts (Sees n m) is = absurd (apart 112 115 _ _ refl is.0)
only_parts Parts is = refl

pub only_faces : (query : Query) → IsQueryWord (codes "faces") query → query ≡ Faces
only_faces Count is = absurd (apart 102 99 _ _ refl is)
only_faces (At x y z) is = absurd (apart 102 97 _ _ refl is.word_is)
only_faces (Hull hull x y z) is = absurd (no_hull_word 102 _ hull x y z refl is.1)
only_faces (Trace from to) is = absurd (apart 102 116 _ _ refl is.word_is)
only_faces (HullTrace hull from to) is = absurd (no_hull_trace_word 102 _ hull from to refl is.1)
only_faces (Model entity) is = absurd (apart 102 109 _ _ refl is.0)
only_faces (ModelAt entity x y z) is = absurd (apart 102 109 _ _ refl is.1.word_is)
only_faces Faces is = refl
only_faces (Face n) is = absurd (apart 115 61 _ _ refl (ap (drop 4) is.0))
only_faces (Row n) is = absurd (apart 102 114 _ _ refl is.0)
only_faces (Sees n m) is = absurd (apart 102 115 _ _ refl is.0)
only_faces Parts is = absurd (apart 102 112 _ _ refl is)

-- a word that begins with none of these has no query
pub no_query : (word : List ℕ) (query : Query) → (word ≡ codes "count" → ⊥) → (word ≡ codes "parts" → ⊥) → (word ≡ codes "faces" → ⊥) → ((text : List ℕ) → word ≡ codes "at=" ++ text → ⊥) → ((text : List ℕ) → word ≡ codes "hull=1," ++ text → ⊥)
    → ((text : List ℕ) → word ≡ codes "hull=2," ++ text → ⊥) → ((text : List ℕ) → word ≡ codes "trace=" ++ text → ⊥)
    → ((text : List ℕ) → word ≡ codes "hulltrace=1," ++ text → ⊥) → ((text : List ℕ) → word ≡ codes "hulltrace=2," ++ text → ⊥)
    → ((text : List ℕ) → word ≡ codes "model=" ++ text → ⊥) → ((text : List ℕ) → word ≡ codes "face=" ++ text → ⊥) → ((text : List ℕ) → word ≡ codes "row=" ++ text → ⊥) → ((text : List ℕ) → word ≡ codes "sees=" ++ text → ⊥) → IsQueryWord word query → ⊥
no_query word Count no_count no_parts no_faces no_place no_one no_two no_trace no_one_trace no_two_trace no_model no_face no_row no_sees is = no_count is
no_query word (At x y z) no_count no_parts no_faces no_place no_one no_two no_trace no_one_trace no_two_trace no_model no_face no_row no_sees is = no_place is.numbers is.word_is
no_query word (Hull hull x y z) no_count no_parts no_faces no_place no_one no_two no_trace no_one_trace no_two_trace no_model no_face no_row no_sees is = ⊎_elim
    (λ (one : hull ≡ 1). no_one is.1.numbers (is.1.word_is ∙ ap (λ (h : ℕ). hull_name h ++ is.1.numbers) one))
    (λ (two : hull ≡ 2). no_two is.1.numbers (is.1.word_is ∙ ap (λ (h : ℕ). hull_name h ++ is.1.numbers) two)) is.0
no_query word (Trace from to) no_count no_parts no_faces no_place no_one no_two no_trace no_one_trace no_two_trace no_model no_face no_row no_sees is = no_trace is.numbers is.word_is
no_query word (HullTrace hull from to) no_count no_parts no_faces no_place no_one no_two no_trace no_one_trace no_two_trace no_model no_face no_row no_sees is = ⊎_elim
    (λ (one : hull ≡ 1). no_one_trace is.1.numbers (is.1.word_is ∙ ap (λ (h : ℕ). hull_trace_name h ++ is.1.numbers) one))
    (λ (two : hull ≡ 2). no_two_trace is.1.numbers (is.1.word_is ∙ ap (λ (h : ℕ). hull_trace_name h ++ is.1.numbers) two)) is.0
no_query word (Model entity) no_count no_parts no_faces no_place no_one no_two no_trace no_one_trace no_two_trace no_model no_face no_row no_sees is = no_model (decimal entity) is.0
no_query word (ModelAt entity x y z) no_count no_parts no_faces no_place no_one no_two no_trace no_one_trace no_two_trace no_model no_face no_row no_sees is = no_model ((decimal entity ++ (44 ∷ [])) ++ is.1.numbers) is.1.word_is
no_query word Faces no_count no_parts no_faces no_place no_one no_two no_trace no_one_trace no_two_trace no_model no_face no_row no_sees is = no_faces is
no_query word (Face n) no_count no_parts no_faces no_place no_one no_two no_trace no_one_trace no_two_trace no_model no_face no_row no_sees is = no_face (decimal n) is.0
no_query word (Row n) no_count no_parts no_faces no_place no_one no_two no_trace no_one_trace no_two_trace no_model no_face no_row no_sees is = no_row (decimal n) is.0
no_query word (Sees n m) no_count no_parts no_faces no_place no_one no_two no_trace no_one_trace no_two_trace no_model no_face no_row no_sees is = no_sees (decimal n ++ (44 ∷ decimal m)) is.0
no_query word Parts no_count no_parts no_faces no_place no_one no_two no_trace no_one_trace no_two_trace no_model no_face no_row no_sees is = no_parts is

-- the word of a query is plain
pub query_is_plain : (word : List ℕ) (query : Query) → IsQueryWord word query → IsFileName word
query_is_plain word Count is = subst IsFileName (sym is) (λ e. absurd (omega (arith, e)))
query_is_plain word (At x y z) is = subst IsFileName (sym is.word_is) (λ e. absurd (omega (arith, e)))
query_is_plain word (Hull hull x y z) is = subst IsFileName (sym (is.1.word_is ∙ hull_head hull is.1.numbers)) (λ e. absurd (omega (arith, e)))
query_is_plain word (Trace from to) is = subst IsFileName (sym is.word_is) (λ e. absurd (omega (arith, e)))
query_is_plain word (HullTrace hull from to) is = subst IsFileName (sym (is.1.word_is ∙ hull_trace_head hull is.1.numbers)) (λ e. absurd (omega (arith, e)))
query_is_plain word (Model entity) is = subst IsFileName (sym is.0) (λ e. absurd (omega (arith, e)))
query_is_plain word (ModelAt entity x y z) is = subst IsFileName (sym is.1.word_is) (λ e. absurd (omega (arith, e)))
query_is_plain word Faces is = subst IsFileName (sym is) (λ e. absurd (omega (arith, e)))
query_is_plain word (Face n) is = subst IsFileName (sym is.0) (λ e. absurd (omega (arith, e)))
query_is_plain word (Row n) is = subst IsFileName (sym is.0) (λ e. absurd (omega (arith, e)))
query_is_plain word (Sees n m) is = subst IsFileName (sym is.0) (λ e. absurd (omega (arith, e)))
query_is_plain word Parts is = subst IsFileName (sym is) (λ e. absurd (omega (arith, e)))

pub queries_are_plain : {words : List (List ℕ)} {queries : List Query} → AreQueryWords words queries → ArePlainWords words
queries_are_plain no_more = tt
queries_are_plain (one_more {word = word} {query = query} is more) = (query_is_plain word query is, queries_are_plain more)

-- ---- one by one

pub one_behind : {words : List (List ℕ)} {queries : List Query} (word : List ℕ) (query : Query) → AreQueryWords words queries → IsQueryWord word query → AreQueryWords (words ++ word ∷ []) (queries ++ query ∷ [])
one_behind word query no_more is = one_more is no_more
one_behind word query (one_more first more) is = one_more first (one_behind word query more is)

-- each of them has a query
pub has_query : {words : List (List ℕ)} {queries : List Query} (i : ℕ) → AreQueryWords words queries → i < length words → (query : Query) × IsQueryWord (get_or words i []) query
has_query i no_more inside = absurd (omega (arith, inside))
has_query zero (one_more {query = query} is more) inside = (query, is)
has_query (suc i) (one_more is more) inside = has_query i more (omega (arith, inside))
