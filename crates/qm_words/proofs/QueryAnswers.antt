-- What is answered of words of queries.
use Rattle.std.proofs.Common.{◌≡◌, ◌∙◌, ◌<◌, ◌+◌, ◌==◌, ℕ, ℤ, codes, refl, sym, ap, subst, arith, zero, suc, List, [], ◌∷◌, ◌++◌, append_assoc, length, take, get_or, Bor, Option, Some, None}
use Rattle.std.specs.Prelude.{IfSome, IfNone, MatchOption}
use Rattle.std.specs.List.{position_or_len, before_first, after_first}
use Rattle.std.specs.Fmt.{decimal}
use Rattle.std.proofs.lemmas.List.{take_more}
use Rattle.qm_commands.specs.QueryWord.{AreEndNumbers, ArePlaceNumbers, AreQueryWords, IsHullNumber, IsQueryWord, IsShort, hull_name, hull_trace_name}
use Rattle.qm_commands.specs.declared.millionths.Millionths.{Millionths}
use Rattle.qm_commands.specs.declared.query.Query.{Query}
use Rattle.qm_commands.specs.declared.query.Query.TheVariants.{At, Hull, Trace, HullTrace, Model, ModelAt, Face, Row, Sees}
use Rattle.qm_words.specs.SeenWords.{bytes_of_words}
use Rattle.qm_words.specs.inner.PlacesRead.{HasNoComma, IsCommaSplit}
use Rattle.qm_words.proofs.Commas.{clear_decimal, clear_text, no_split, split_found, splits_once}
use Rattle.qm_words.proofs.QueryLaws.{fits, has_query, one_behind, only_face, only_hull, only_hull_trace, only_model, only_place, only_row, only_sees, only_trace}

-- ---- the first comma

abbrev Splits : List ℕ → Option (Bor (List ℕ) × Bor (List ℕ)) → Type 0
Splits text r = MatchOption r (position_or_len (λ b. b == 44) text ≡ length text)
    (λ x. (x.0.now ≡ before_first (λ b. b == 44) text) × (x.1.now ≡ after_first (λ b. b == 44) text) × (position_or_len (λ b. b == 44) text < length text))

pub comma_some : (text : List ℕ) (r : Option (Bor (List ℕ) × Bor (List ℕ))) → Splits text r → IfSome r (λ parts. IsCommaSplit text parts.0.now parts.1.now)
comma_some text None h = tt
comma_some text (Some parts) h = split_found text parts.0.now parts.1.now h.0 h.1 h.2

pub comma_none : (text : List ℕ) (r : Option (Bor (List ℕ) × Bor (List ℕ))) → Splits text r → IfNone r ((first rest : List ℕ) → IsCommaSplit text first rest → ⊥)
comma_none text None h = λ first rest split. no_split text first rest h split
comma_none text (Some parts) h = tt

-- ---- places

pub no_at : (text : List ℕ) → ((x y z : ℤ) → ArePlaceNumbers text x y z → ⊥) → (query : Query) → IsQueryWord (codes "at=" ++ text) query → ⊥
no_at text never query is = only_place text query (λ _. ⊥) never is

pub at_is : (text : List ℕ) (x y z : ℤ) → ArePlaceNumbers text x y z → IsQueryWord (codes "at=" ++ text) (At x y z)
at_is text x y z are = record { numbers = text; word_is = refl; are_numbers = are }

pub no_hull : (hull : ℕ) (text : List ℕ) → IsHullNumber hull → ((x y z : ℤ) → ArePlaceNumbers text x y z → ⊥) → (query : Query) → IsQueryWord (hull_name hull ++ text) query → ⊥
no_hull hull text number never query is = only_hull hull text query (λ _. ⊥) number never is

pub hull_is : (hull : ℕ) (text : List ℕ) (x y z : ℤ) → IsHullNumber hull → ArePlaceNumbers text x y z → IsQueryWord (hull_name hull ++ text) (Hull hull x y z)
hull_is hull text x y z number are = (number, record { numbers = text; word_is = refl; are_numbers = are })

pub no_trace : (text : List ℕ) → ((from to : Millionths) → AreEndNumbers text from to → ⊥) → (query : Query) → IsQueryWord (codes "trace=" ++ text) query → ⊥
no_trace text never query is = only_trace text query (λ _. ⊥) never is

pub trace_is : (text : List ℕ) (from to : Millionths) → AreEndNumbers text from to → IsQueryWord (codes "trace=" ++ text) (Trace from to)
trace_is text from to are = record { numbers = text; word_is = refl; are_ends = are }

pub no_hull_trace : (hull : ℕ) (text : List ℕ) → IsHullNumber hull → ((from to : Millionths) → AreEndNumbers text from to → ⊥) → (query : Query) → IsQueryWord (hull_trace_name hull ++ text) query → ⊥
no_hull_trace hull text number never query is = only_hull_trace hull text query (λ _. ⊥) number never is

pub hull_trace_is : (hull : ℕ) (text : List ℕ) (from to : Millionths) → IsHullNumber hull → AreEndNumbers text from to → IsQueryWord (hull_trace_name hull ++ text) (HullTrace hull from to)
hull_trace_is hull text from to number are = (number, record { numbers = text; word_is = refl; are_ends = are })

-- a word that is spelled so has no query where none is spelled so
pub none_spelled : (word spelled : List ℕ) → word ≡ spelled → (r : Option Query) → IfNone r ((query : Query) → IsQueryWord spelled query → ⊥) → IfNone r ((query : Query) → IsQueryWord word query → ⊥)
none_spelled word spelled same None never = λ query is. never query (subst (λ (w : List ℕ). IsQueryWord w query) same is)
none_spelled word spelled same (Some query) never = tt

-- ---- models

-- where no comma is there, all is the number of the entity
module _ (text : List ℕ) (unsplit : (first rest : List ℕ) → IsCommaSplit text first rest → ⊥) where
  pub no_model : ((entity : ℕ) → IsShort entity → text ≡ decimal entity → ⊥) → (query : Query) → IsQueryWord (codes "model=" ++ text) query → ⊥
  no_model never query is = only_model text query (λ _. ⊥) (λ entity same short. never entity short same) (λ entity numbers x y z split short are. unsplit (decimal entity) numbers split) is

pub model_is : (text : List ℕ) (entity : ℕ) → text ≡ decimal entity → IsShort entity → IsQueryWord (codes "model=" ++ text) (Model entity)
model_is text entity same short = (ap (λ (t : List ℕ). codes "model=" ++ t) same, short)

-- where one is there, a place stands behind it
module _ (text first numbers : List ℕ) (split : IsCommaSplit text first numbers) where
  uncut : (entity : ℕ) → IsShort entity → text ≡ decimal entity → ⊥
  uncut entity short same = clear_text text first numbers (subst HasNoComma (sym same) (clear_decimal entity (fits entity short))) split

  pub no_model_entity : ((entity : ℕ) → IsShort entity → first ≡ decimal entity → ⊥) → (query : Query) → IsQueryWord (codes "model=" ++ text) query → ⊥
  no_model_entity never query is = only_model text query (λ _. ⊥) (λ entity same short. uncut entity short same)
      (λ entity place x y z other short are. never entity short (splits_once text first numbers (decimal entity) place split other).0) is

  pub no_model_place : ((x y z : ℤ) → ArePlaceNumbers numbers x y z → ⊥) → (query : Query) → IsQueryWord (codes "model=" ++ text) query → ⊥
  no_model_place never query is = only_model text query (λ _. ⊥) (λ entity same short. uncut entity short same)
      (λ entity place x y z other short are. never x y z (subst (λ (t : List ℕ). ArePlaceNumbers t x y z) (sym (splits_once text first numbers (decimal entity) place split other).1) are)) is

  pub model_at_is : (entity : ℕ) (x y z : ℤ) → first ≡ decimal entity → IsShort entity → ArePlaceNumbers numbers x y z → IsQueryWord (codes "model=" ++ text) (ModelAt entity x y z)
  model_at_is entity x y z same short are = (
    short,
    record {
      numbers = numbers;
      word_is = ap (λ (t : List ℕ). codes "model=" ++ t) (split.text_is ∙ ap (λ (f : List ℕ). f ++ (44 ∷ numbers)) same ∙ sym (append_assoc (decimal entity) (44 ∷ []) numbers));
      are_numbers = are;
    },
  )

-- ---- faces

pub no_face : (text : List ℕ) → ((n : ℕ) → IsShort n → text ≡ decimal n → ⊥) → (query : Query) → IsQueryWord (codes "face=" ++ text) query → ⊥
no_face text never query is = only_face text query (λ _. ⊥) (λ n same short. never n short same) is

pub face_is : (text : List ℕ) (n : ℕ) → text ≡ decimal n → IsShort n → IsQueryWord (codes "face=" ++ text) (Face n)
face_is text n same short = (ap (λ (t : List ℕ). codes "face=" ++ t) same, short)

-- ---- leaves

pub no_row : (text : List ℕ) → ((n : ℕ) → IsShort n → text ≡ decimal n → ⊥) → (query : Query) → IsQueryWord (codes "row=" ++ text) query → ⊥
no_row text never query is = only_row text query (λ _. ⊥) (λ n same short. never n short same) is

pub row_is : (text : List ℕ) (n : ℕ) → text ≡ decimal n → IsShort n → IsQueryWord (codes "row=" ++ text) (Row n)
row_is text n same short = (ap (λ (t : List ℕ). codes "row=" ++ t) same, short)

pub no_sees_split : (text : List ℕ) → ((first rest : List ℕ) → IsCommaSplit text first rest → ⊥) → (query : Query) → IsQueryWord (codes "sees=" ++ text) query → ⊥
no_sees_split text never query is = only_sees text query (λ _. ⊥) (λ n m split short_n short_m. never (decimal n) (decimal m) split) is

module _ (text first second : List ℕ) (split : IsCommaSplit text first second) where
  pub no_sees_from : ((n : ℕ) → IsShort n → first ≡ decimal n → ⊥) → (query : Query) → IsQueryWord (codes "sees=" ++ text) query → ⊥
  no_sees_from never query is = only_sees text query (λ _. ⊥) (λ n m other short_n short_m. never n short_n (splits_once text first second (decimal n) (decimal m) split other).0) is

  pub no_sees_to : ((n : ℕ) → IsShort n → second ≡ decimal n → ⊥) → (query : Query) → IsQueryWord (codes "sees=" ++ text) query → ⊥
  no_sees_to never query is = only_sees text query (λ _. ⊥) (λ n m other short_n short_m. never m short_m (splits_once text first second (decimal n) (decimal m) split other).1) is

  pub sees_is : (n m : ℕ) → first ≡ decimal n → IsShort n → second ≡ decimal m → IsShort m → IsQueryWord (codes "sees=" ++ text) (Sees n m)
  sees_is n m is_n short_n is_m short_m =
      (ap (λ (t : List ℕ). codes "sees=" ++ t) (split.text_is ∙ ap (λ (f : List ℕ). f ++ (44 ∷ second)) is_n ∙ ap (λ (s : List ℕ). decimal n ++ (44 ∷ s)) is_m), short_n, short_m)

-- ---- one by one

get_bytes : (words : List (Bor (List ℕ))) (i : ℕ) (nothing : Bor (List ℕ)) → i < length words → get_or (bytes_of_words words) i [] ≡ (get_or words i nothing).now
get_bytes [] i nothing inside = absurd (omega (arith, inside))
get_bytes (word ∷ words) zero nothing inside = refl
get_bytes (word ∷ words) (suc i) nothing inside = get_bytes words i nothing (omega (arith, inside))

bytes_length : (words : List (Bor (List ℕ))) → length (bytes_of_words words) ≡ length words
bytes_length [] = refl
bytes_length (word ∷ words) = ap suc (bytes_length words)

pub no_queries : (words : List (Bor (List ℕ))) (i : ℕ) (nothing : Bor (List ℕ)) → i < length words → ((q : Query) → IsQueryWord (get_or words i nothing).now q → ⊥)
    → (queries : List Query) → AreQueryWords (bytes_of_words words) queries → ⊥
no_queries words i nothing inside never queries are =
    let found = has_query i are (omega (arith, inside, bytes_length words)) in
    never found.0 (subst (λ (w : List ℕ). IsQueryWord w found.0) (get_bytes words i nothing inside) found.1)

bytes_append : (words : List (Bor (List ℕ))) (word : Bor (List ℕ)) → bytes_of_words (words ++ word ∷ []) ≡ bytes_of_words words ++ word.now ∷ []
bytes_append [] word = refl
bytes_append (first ∷ words) word = ap (λ (rest : List (List ℕ)). first.now ∷ rest) (bytes_append words word)

pub more_queries : (words : List (Bor (List ℕ))) (i : ℕ) (nothing : Bor (List ℕ)) (queries : List Query) (query : Query) → i < length words → AreQueryWords (bytes_of_words (take i words)) queries
    → IsQueryWord (get_or words i nothing).now query → AreQueryWords (bytes_of_words (take (i + 1) words)) (queries ++ query ∷ [])
more_queries words i nothing queries query inside are is =
    let longer = take_more words i nothing inside in
    subst (λ (w : List (List ℕ)). AreQueryWords w (queries ++ query ∷ [])) (sym (ap bytes_of_words longer ∙ bytes_append (take i words) (get_or words i nothing))) (one_behind (get_or words i nothing).now query are is)
