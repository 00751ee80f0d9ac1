-- Walks of the parser over words, at a command without subcommands.
use Rattle.std.proofs.Common.{◌≡◌, ◌≢◌, ◌∙◌, ◌&&◌, ◌||◌, ◌==◌, ℕ, Bool, cond, true, false, refl, sym, ap, ap₂, List, [], ◌∷◌, Option, Some, None}
use Rattle.std.specs.Prelude.{fold, option_and_then}
use Rattle.std.specs.Option.{option_map_or}
use Rattle.std.specs.Str.{bytes_eq}
use Rattle.clap.specs.Lexer.{long_of, long_of_rest, short_of, short_of_rest, strip_byte}
use Rattle.clap.specs.Walk.{Held, Row, Rule, Text, Step, trailing, Walk, Waiting, long_or_other, short_or_plain, subcommand_met, subcommand_or_other, idle, option, positional, walk_from, after_step, is_pending, plain_word, positional_held, pushed, takes_several, word_met, walked, nothing_held, finished, settled, has_row, with_default, default_rows, reading_by, is_empty}
use Rattle.clap.specs.Simple.{App, Shape}
use Rattle.clap.specs.Faults.{walk_fault, built_fault, level_fault, settle_fault, defaults_fault, default_fault, check_fault, given_default_fault, turn_fault, positional_fault, repeat_fault, set_fault, step_fault, other_fault, flag_word_fault, bundle_fault, values_fault}
use Rattle.clap.specs.Kinds.{Kinds, or_else}
use Rattle.clap.specs.declared.error.kind.ErrorKind.{ErrorKind}
use Rattle.clap.specs.declared.error.kind.ErrorKind.TheVariants.{ArgumentConflict}
use Rattle.clap.proofs.FaultLemmas.{leaf_fault}
use Rattle.std.proofs.lemmas.Bool.Decides.{Decides-eqb}

-- what is left to go wrong at the end of the words
abbrev pub end_fault : Shape → Held → Kinds
end_fault s h = or_else (settle_fault s.rules s.args_override_self h)
    (or_else (defaults_fault (settled s.rules h).rows s.rules) (check_fault s (finished s.rules h) false))

-- what is left to go wrong over these words
unfoldable pub fault_from : Shape → Walk → List Text → Kinds
fault_from s w words = or_else (walk_fault s [] w words) (end_fault s (fold (walked s.rules []) w words).held)

-- the rows behind these words
unfoldable pub rows_from : Shape → Walk → List Text → List Row
rows_from s w words = finished s.rules (fold (walked s.rules []) w words).held

abbrev pub start : Walk
start = walk_from nothing_held

level_is : (s : Shape) (words : List Text) → level_fault s [] nothing_held words false [] ≡ fault_from s start words
unfolding fault_from
level_is s words = refl

pub leaf_fault_from : (a : App) (words : List Text) → a.subs ≡ [] → built_fault a nothing_held words ≡ fault_from a.top start words
leaf_fault_from a words none = leaf_fault a nothing_held words none ∙ level_is a.top words

or_else-assoc : (a b c : Kinds) → or_else (or_else a b) c ≡ or_else a (or_else b c)
or_else-assoc [] b c = refl
or_else-assoc (k ∷ ks) b c = refl

pub or_else-none : (a b : Kinds) → a ≡ [] → b ≡ [] → or_else a b ≡ []
or_else-none a b none_a none_b = ap₂ or_else none_a none_b

pub first_none : (a b : Kinds) → or_else a b ≡ [] → a ≡ []
first_none [] b none = refl
first_none (k ∷ ks) b none = none

pub some_wrong : (k : ErrorKind) (ks : Kinds) → k ∷ ks ≡ [] → ⊥
some_wrong k ks none = absurd cc

pub second_none : (a b : Kinds) → or_else a b ≡ [] → b ≡ []
second_none [] b none = none
second_none (k ∷ ks) b none = absurd cc

one_fault : (s : Shape) (w : Walk) (word : Text) (words : List Text)
    → fault_from s w (word ∷ words) ≡ or_else (turn_fault s [] w word) (fault_from s (walked s.rules [] w word) words)
unfolding fault_from walk_fault
one_fault s w word words = or_else-assoc (turn_fault s [] w word) (walk_fault s [] (walked s.rules [] w word) words)
    (end_fault s (fold (walked s.rules []) (walked s.rules [] w word) words).held)

one_rows : (s : Shape) (w : Walk) (word : Text) (words : List Text) → rows_from s w (word ∷ words) ≡ rows_from s (walked s.rules [] w word) words
unfolding rows_from
one_rows s w word words = refl

-- a word leads from one walk to the next, and nothing is wrong with it
pub record Leads (s : Shape) (w : Walk) (word : Text) (next : Walk) : Type 0 where
  pub turn : turn_fault s [] w word ≡ []
  pub walks : walked s.rules [] w word ≡ next

pub fault_on : (s : Shape) (w next : Walk) (word : Text) (words : List Text) → Leads s w word next → fault_from s w (word ∷ words) ≡ fault_from s next words
fault_on s w next word words leads = one_fault s w word words ∙ ap₂ or_else leads.turn (ap (λ (v : Walk). fault_from s v words) leads.walks)

pub rows_on : (s : Shape) (w next : Walk) (word : Text) (words : List Text) → Leads s w word next → rows_from s w (word ∷ words) ≡ rows_from s next words
rows_on s w next word words leads = one_rows s w word words ∙ ap (λ (v : Walk). rows_from s v words) leads.walks

-- nothing is wrong over words, so nothing is with the first
pub first_is_right : (s : Shape) (w : Walk) (word : Text) (words : List Text) → fault_from s w (word ∷ words) ≡ [] → turn_fault s [] w word ≡ []
first_is_right s w word words none = first_none _ _ (sym (one_fault s w word words) ∙ none)

pub end_fault_is : (s : Shape) (w : Walk) → fault_from s w [] ≡ end_fault s w.held
unfolding fault_from walk_fault
end_fault_is s w = refl

pub end_rows_are : (s : Shape) (w : Walk) → rows_from s w [] ≡ finished s.rules w.held
unfolding rows_from
end_rows_are s w = refl

-- ---- one use of an argument

-- it was not used before, and its values pass
pub set_passes : (a : Rule) (values : List Text) (rows : List Row) → has_row a.id rows ≡ false → values_fault a values ≡ [] → set_fault false a values rows ≡ []
set_passes a values rows free pass = rw free pass

-- its values were taken, so it was not used before
pub set_free : (a : Rule) (values : List Text) (rows : List Row) → set_fault false a values rows ≡ [] → has_row a.id rows ≡ false
set_free a values rows right = free (has_row a.id rows) (first_none (repeat_fault false a.id rows) (values_fault a values) right)
  where
    free : (b : Bool) → cond (b && true) (ArgumentConflict ∷ []) [] ≡ [] → b ≡ false
    free true wrong = absurd cc
    free false right = refl

-- a positional that takes one value is used up by the next word
pub positional_settles : (c : List Rule) (a : Rule) (h : Held) → takes_several a ≡ false → positional_fault c false a h ≡ settle_fault c false h
positional_settles c a h few =
    ap (λ (b : Bool). cond (is_pending a h.pending && b) [] (settle_fault c false h)) few ∙ either (is_pending a h.pending)
  where
    either : (b : Bool) → cond (b && false) [] (settle_fault c false h) ≡ settle_fault c false h
    either true = refl
    either false = refl

pub positional_holds : (c : List Rule) (a : Rule) (word : Text) (h : Held) → takes_several a ≡ false → positional_held c a word h ≡ pushed a.id word (settled c h)
positional_holds c a word h few =
    ap (λ (b : Bool). pushed a.id word (cond (is_pending a h.pending && b) h (settled c h))) few ∙ either (is_pending a h.pending)
  where
    either : (b : Bool) → pushed a.id word (cond (b && false) h (settled c h)) ≡ pushed a.id word (settled c h)
    either true = refl
    either false = refl

-- ---- defaults

pub no_default : (a : Rule) (rows : List Row) → a.defaults ≡ [] → with_default rows a ≡ rows
no_default a rows none = ap (λ (d : List Text). cond (has_row a.id rows) rows (default_rows a.id (reading_by a) d rows)) none ∙ either (has_row a.id rows)
  where
    either : (b : Bool) → cond b rows rows ≡ rows
    either true = refl
    either false = refl

no_default_fault : (a : Rule) (rows : List Row) → a.defaults ≡ [] → default_fault rows a ≡ []
no_default_fault a rows none =
    ap (λ (d : List Text). cond (has_row a.id rows || is_empty d) [] (given_default_fault a d)) none ∙ either (has_row a.id rows)
  where
    either : (b : Bool) → cond (b || true) [] (given_default_fault a []) ≡ []
    either true = refl
    either false = refl

pub past_default : (a : Rule) (rest : List Rule) (rows : List Row) → a.defaults ≡ [] → defaults_fault rows (a ∷ rest) ≡ defaults_fault rows rest
unfolding defaults_fault
past_default a rest rows none = ap₂ (λ (k : Kinds) (r : List Row). or_else k (defaults_fault r rest)) (no_default_fault a rows none) (no_default a rows none)

-- ---- words without a hyphen in front

no_hyphen : (byte : ℕ) → byte ≢ 45 → (byte == 45) ≡ false
no_hyphen byte other = false_of (byte == 45) (λ e. other ((Decides-eqb byte 45).0 e))
  where
    false_of : (b : Bool) → (b ≡ true → ⊥) → b ≡ false
    false_of true never = absurd (never refl)
    false_of false never = refl

no_dashes : (byte : ℕ) (bytes : Text) → byte ≢ 45 → bytes_eq (byte ∷ bytes) (45 ∷ 45 ∷ []) ≡ false
no_dashes byte bytes other = ap (λ (b : Bool). b && bytes_eq bytes (45 ∷ [])) (no_hyphen byte other)

no_long : (byte : ℕ) (bytes : Text) → byte ≢ 45 → long_of (byte ∷ bytes) ≡ None
no_long byte bytes other = ap (λ (b : Bool). option_and_then long_of_rest (option_and_then (strip_byte 45) (cond b (Some bytes) None))) (no_hyphen byte other)

no_short : (byte : ℕ) (bytes : Text) → byte ≢ 45 → short_of (byte ∷ bytes) ≡ None
no_short byte bytes other = ap (λ (b : Bool). option_and_then short_of_rest (cond b (Some bytes) None)) (no_hyphen byte other)

-- such a word is no flag
pub plain_fault : (s : Shape) (byte : ℕ) (bytes : Text) (h : Held) → byte ≢ 45 → other_fault s None (byte ∷ bytes) h ≡ []
plain_fault s byte bytes h other =
    ap₂ (λ (dashes : Bool) (long : Option (Text × Option Text)). cond dashes [] (flag_word_fault s.rules s.args_override_self long (byte ∷ bytes) h))
    (no_dashes byte bytes other) (no_long byte bytes other)
    ∙ ap (λ (flags : Option Text). option_map_or (λ f. bundle_fault s.rules s.args_override_self f h) flags []) (no_short byte bytes other)

pub plain_met : (c : List Rule) (waiting : Waiting) (position : ℕ) (byte : ℕ) (bytes : Text) (h : Held) → byte ≢ 45
    → subcommand_or_other c None waiting position (byte ∷ bytes) h ≡ plain_word c waiting (byte ∷ bytes) h
plain_met c waiting position byte bytes h other =
    ap₂ (λ (dashes : Bool) (long : Option (Text × Option Text)). cond dashes (h, trailing position) (long_or_other c waiting (byte ∷ bytes) long h))
    (no_dashes byte bytes other) (no_long byte bytes other)
    ∙ ap (λ (flags : Option Text). short_or_plain c waiting (byte ∷ bytes) flags h) (no_short byte bytes other)

no_subcommand : (waiting : Waiting) (word : Text) → subcommand_met [] waiting word ≡ None
no_subcommand idle word = refl
no_subcommand (option id) word = refl
no_subcommand positional word = refl

-- nothing is wrong with a word, so nothing is with what it is taken for
pub word_right : (s : Shape) (h : Held) (waiting : Waiting) (position : ℕ) (word : Text)
    → turn_fault s [] (record { held = h; waiting = waiting; position = position; is_trailing = false; stopped = None }) word ≡ [] → other_fault s None word h ≡ []
word_right s h waiting position word right =
    ap (λ (o : Option Text). other_fault s o word h) (sym (no_subcommand waiting word)) ∙ first_none (other_fault s (subcommand_met [] waiting word) word h) _ right

plain_word_met : (c : List Rule) (waiting : Waiting) (position : ℕ) (byte : ℕ) (bytes : Text) (h : Held) → byte ≢ 45
    → word_met c [] false waiting position (byte ∷ bytes) h ≡ plain_word c waiting (byte ∷ bytes) h
plain_word_met c waiting position byte bytes h other =
    ap (λ (o : Option Text). subcommand_or_other c o waiting position (byte ∷ bytes) h) (no_subcommand waiting (byte ∷ bytes)) ∙ plain_met c waiting position byte bytes h other

-- what is wrong with a word that is no flag is what is wrong with its place
pub plain_turn : (s : Shape) (h : Held) (waiting : Waiting) (position : ℕ) (byte : ℕ) (bytes : Text) → byte ≢ 45
    → turn_fault s [] (record { held = h; waiting = waiting; position = position; is_trailing = false; stopped = None }) (byte ∷ bytes)
    ≡ (let met = plain_word s.rules waiting (byte ∷ bytes) h in step_fault s position met.0 met.1)
plain_turn s h waiting position byte bytes other =
    ap₂ (λ (k : Kinds) (m : Held × Step). or_else k (step_fault s position m.0 m.1))
    (ap (λ (o : Option Text). other_fault s o (byte ∷ bytes) h) (no_subcommand waiting (byte ∷ bytes)) ∙ plain_fault s byte bytes h other)
    (plain_word_met s.rules waiting position byte bytes h other)

-- the walk goes on as the word is read
pub plain_leads : (s : Shape) (h : Held) (waiting : Waiting) (position : ℕ) (byte : ℕ) (bytes : Text) (next : Walk) → byte ≢ 45
    → (let met = plain_word s.rules waiting (byte ∷ bytes) h in step_fault s position met.0 met.1 ≡ [])
    → (let met = plain_word s.rules waiting (byte ∷ bytes) h in after_step s.rules (byte ∷ bytes) (record { held = h; waiting = waiting; position = position; is_trailing = false; stopped = None }) met.0 met.1 ≡ next)
    → Leads s (record { held = h; waiting = waiting; position = position; is_trailing = false; stopped = None }) (byte ∷ bytes) next
unfolding walked
plain_leads s h waiting position byte bytes next other right goes = record {
  turn = plain_turn s h waiting position byte bytes other ∙ right;
  walks = ap (λ (m : Held × Step). after_step s.rules (byte ∷ bytes) (record { held = h; waiting = waiting; position = position; is_trailing = false; stopped = None }) m.0 m.1)
      (plain_word_met s.rules waiting position byte bytes h other) ∙ goes;
}
