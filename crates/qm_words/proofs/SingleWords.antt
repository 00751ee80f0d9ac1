-- Words by themselves.
use Rattle.std.proofs.Common.{◌≡◌, ◌≢◌, ◌∙◌, ◌≤◌, ◌+◌, ◌<◌, ℕ, Bool, codes, true, false, refl, sym, ap, subst, List, [], ◌∷◌, ◌++◌, append-nil, drop, get_or, length, Option, Some, None, is_some, option_map, Result, Ok, Err}
use Rattle.std.specs.Prelude.{IfNone}
use Rattle.std.specs.Borrow.{Bor}
use Rattle.std.specs.Str.{bytes_eq}
use Rattle.std.proofs.lemmas.Slice.Eq.{bytes_eq-Decides}
use Rattle.std.proofs.lemmas.List.{drop_more, drop_all}
use Rattle.qm_commands.specs.CompileRequest.{FlagOption, fast_option, hulls_option, models_option, faces_option, flag_spelling, ValuedOption, listing_option, threads_option, option_spelling}
use Rattle.qm_commands.specs.FileNames.{IsFileName}
use Rattle.qm_words.specs.SeenWords.{bytes_of_words}
use Rattle.qm_words.specs.inner.EachWord.{Each}
use Rattle.qm_words.specs.inner.CompileWord.{IsCompileWord, IsFlag, IsValueBehind, IsValued, plain, bare, alone, within}

-- an option with or without its value is a word behind `compile`
pub valued_word : (kind : ValuedOption) (word : List ℕ) → IsValued (option_spelling kind) word → IsCompileWord word
valued_word kind word valued = by_rest valued.rest valued.word_is valued.is_value
  where
    by_rest : (rest : List ℕ) → word ≡ option_spelling kind ++ rest → IsValueBehind rest → IsCompileWord word
    by_rest [] is value_is = alone kind (is ∙ append-nil (option_spelling kind))
    by_rest (byte ∷ []) is value_is = absurd value_is
    by_rest (byte ∷ next ∷ bytes) is value_is = within kind (next ∷ bytes) (is ∙ ap (λ (b : ℕ). option_spelling kind ++ (b ∷ next ∷ bytes)) value_is) (λ none. absurd cc)

alone_valued : (kind : ValuedOption) (word : List ℕ) → word ≡ option_spelling kind → IsValued (option_spelling kind) word
alone_valued kind word is = record { rest = []; word_is = is ∙ sym (append-nil (option_spelling kind)); is_value = tt }

within_valued : (kind : ValuedOption) (word text : List ℕ) → word ≡ option_spelling kind ++ (61 ∷ text) → text ≢ [] → IsValued (option_spelling kind) word
within_valued kind word [] is some = absurd (some refl)
within_valued kind word (byte ∷ bytes) is some = record { rest = 61 ∷ byte ∷ bytes; word_is = is; is_value = refl }

-- an option without a value is one as well
pub flag_word : (word : List ℕ) → IsFlag word → IsCompileWord word
flag_word word is = bare is.flag is.word_is

-- a word that is spelled like none of them is no option without a value
pub no_flag_word : (word : List ℕ) → (word ≡ codes "--fast" → ⊥) → (word ≡ codes "--hulls" → ⊥) → (word ≡ codes "--models" → ⊥) → (word ≡ codes "--faces" → ⊥) → IsFlag word → ⊥
no_flag_word word no_fast no_hulls no_models no_faces is = by is.flag is.word_is
  where
    by : (flag : FlagOption) → word ≡ flag_spelling flag → ⊥
    by fast_option spelled = no_fast spelled
    by hulls_option spelled = no_hulls spelled
    by models_option spelled = no_models spelled
    by faces_option spelled = no_faces spelled

-- a word that is none of these is not one behind `compile`
pub no_compile_word : (word : List ℕ) → (IsFileName word → ⊥) → (IsFlag word → ⊥) → (IsValued (codes "--prt") word → ⊥) → (IsValued (codes "--threads") word → ⊥) → IsCompileWord word → ⊥
no_compile_word word no_name no_flag no_listing no_threads (plain is) = no_name is
no_compile_word word no_name no_flag no_listing no_threads (bare flag is) = no_flag (record { flag = flag; word_is = is })
no_compile_word word no_name no_flag no_listing no_threads (alone listing_option is) = no_listing (alone_valued listing_option word is)
no_compile_word word no_name no_flag no_listing no_threads (alone threads_option is) = no_threads (alone_valued threads_option word is)
no_compile_word word no_name no_flag no_listing no_threads (within listing_option text is some) = no_listing (within_valued listing_option word text is some)
no_compile_word word no_name no_flag no_listing no_threads (within threads_option text is some) = no_threads (within_valued threads_option word text is some)

pub none_true : (b : Bool) → b ≡ false → b ≡ true → ⊥
none_true b off on = let clash : false ≡ true = sym off ∙ on in absurd cc

pub true_unless : (b : Bool) → (b ≡ false → ⊥) → b ≡ true
true_unless true never = refl
true_unless false never = absurd (never refl)

-- ---- words one after another

-- all words have a property where those from a place on have it
abbrev pub SameFrom : (List ℕ → Type 0) → List (Bor (List ℕ)) → ℕ → Type 0
SameFrom P words i = (Each P (bytes_of_words words) → Each P (bytes_of_words (drop i words))) × (Each P (bytes_of_words (drop i words)) → Each P (bytes_of_words words))

module _ (P : List ℕ → Type 0) (words : List (Bor (List ℕ))) (i : ℕ) (nothing : Bor (List ℕ)) where
  front : i < length words → Each P (bytes_of_words (drop i words)) → P (get_or words i nothing).now × Each P (bytes_of_words (drop (i + 1) words))
  front inside each = subst (λ (rest : List (Bor (List ℕ))). Each P (bytes_of_words rest)) (drop_more words i nothing inside) each

  whole : i < length words → P (get_or words i nothing).now × Each P (bytes_of_words (drop (i + 1) words)) → Each P (bytes_of_words (drop i words))
  whole inside each = subst (λ (rest : List (Bor (List ℕ))). Each P (bytes_of_words rest)) (sym (drop_more words i nothing inside)) each

  pub each_stops : i < length words → SameFrom P words i → (P (get_or words i nothing).now → ⊥) → Each P (bytes_of_words words) → ⊥
  each_stops inside same never each = never (front inside (same.0 each)).0

  pub each_goes : i < length words → SameFrom P words i → P (get_or words i nothing).now → SameFrom P words (i + 1)
  each_goes inside same is = (λ each. (front inside (same.0 each)).1, λ each. same.1 (whole inside (is, each)))

  pub each_ends : length words ≤ i → SameFrom P words i → Each P (bytes_of_words words)
  each_ends past same = same.1 (subst (λ (rest : List (Bor (List ℕ))). Each P (bytes_of_words rest)) (sym (drop_all i words past)) tt)

-- ---- of an Option

pub if_none : {X : Type 0} (o : Option X) (P : Type 0) → P → IfNone o P
if_none None P p = p
if_none (Some x) P p = tt

pub some_kept : {X Y : Type 0} (f : X → Y) (o : Option X) → is_some o ≡ is_some (option_map f o)
some_kept f None = refl
some_kept f (Some x) = refl

-- ---- of a Result

pub ok_once : {X E : Type 0} (r : Result X E) (x y : X) → r ≡ Ok x → r ≡ Ok y → x ≡ y
ok_once r x y is_x is_y = let same = sym is_x ∙ is_y in cc

pub not_both : {X E : Type 0} (r : Result X E) (x : X) (e : E) → r ≡ Ok x → r ≡ Err e → ⊥
not_both r x e is_ok is_err = let clash = sym is_ok ∙ is_err in absurd cc

-- ---- verbs

head_of : List (List ℕ) → List ℕ
head_of [] = []
head_of (word ∷ words) = word

-- words behind different verbs are different
pub verbs_apart : (verb other : List ℕ) (words rest : List (List ℕ)) → bytes_eq verb other ≡ false → verb ∷ words ≡ other ∷ rest → ⊥
unfolding head_of
verbs_apart verb other words rest differ same = none_true (bytes_eq verb other) differ ((bytes_eq-Decides verb other).1 (ap head_of same))
