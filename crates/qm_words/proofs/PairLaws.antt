-- The words behind a verb that takes two.
use Rattle.std.proofs.Common.{◌≡◌, ◌≢◌, ◌∙◌, ℕ, codes, true, false, refl, sym, ap, List, [], ◌∷◌, Some, None}
use Rattle.clap.specs.Walk.{Held, Row, Text, Walk, idle, first_of, nothing_held, pushed, settled}
use Rattle.clap.specs.Simple.{Shape, built, matches_of}
use Rattle.clap.specs.Faults.{defaults_fault, fault_of, is_simple_and_free}
use Rattle.clap.specs.declared.error.kind.ErrorKind.TheVariants.{MissingRequiredArgument, UnknownArgument}
use Rattle.qm_commands.specs.FileNames.{IsFileName}
use Rattle.qm_words.specs.inner.CommandLines.{pair_app}
use Rattle.qm_words.specs.inner.PlainWords.{ArePlainWords}
use Rattle.qm_words.proofs.Walks.{Leads, end_fault_is, end_rows_are, fault_from, fault_on, first_is_right, leaf_fault_from, plain_leads, plain_turn, rows_from, rows_on, some_wrong, start}

pub pair_is_free : (verb : Text) → is_simple_and_free (pair_app verb) ≡ true
pair_is_free verb = refl

abbrev shape : Text → Shape
shape verb = (built (pair_app verb)).top

pair_fault : (verb : Text) (words : List Text) → fault_of (pair_app verb) words ≡ fault_from (shape verb) start words
pair_fault verb words = leaf_fault_from (built (pair_app verb)) words refl

pair_rows : (verb : Text) (words : List Text) → matches_of (pair_app verb) words ≡ rows_from (shape verb) start words
unfolding rows_from
pair_rows verb words = refl

abbrev with_first : Text → Text → Held
with_first verb a = pushed (codes "first") a nothing_held

abbrev with_second : Text → Text → Text → Held
with_second verb a b = pushed (codes "second") b (settled (shape verb).rules (with_first verb a))

abbrev idle_at : Held → ℕ → Walk
idle_at h position = record { held = h; waiting = idle; position = position; is_trailing = false; stopped = None }

first_leads : (verb : Text) (byte : ℕ) (bytes : Text) → byte ≢ 45 → Leads (shape verb) start (byte ∷ bytes) (idle_at (with_first verb (byte ∷ bytes)) 2)
first_leads verb byte bytes other = plain_leads (shape verb) nothing_held idle 1 byte bytes _ other refl refl

second_leads : (verb a : Text) (byte : ℕ) (bytes : Text) → byte ≢ 45 → Leads (shape verb) (idle_at (with_first verb a) 2) (byte ∷ bytes) (idle_at (with_second verb a (byte ∷ bytes)) 3)
second_leads verb a byte bytes other = plain_leads (shape verb) (with_first verb a) idle 2 byte bytes _ other refl refl

none_wrong : (verb : Text) → fault_from (shape verb) start [] ≡ MissingRequiredArgument ∷ []
unfolding defaults_fault
none_wrong verb = end_fault_is (shape verb) start

one_wrong : (verb a : Text) → fault_from (shape verb) (idle_at (with_first verb a) 2) [] ≡ MissingRequiredArgument ∷ []
unfolding defaults_fault
one_wrong verb a = end_fault_is (shape verb) (idle_at (with_first verb a) 2)

two_right : (verb a b : Text) → fault_from (shape verb) (idle_at (with_second verb a b) 3) [] ≡ []
unfolding defaults_fault
two_right verb a b = end_fault_is (shape verb) (idle_at (with_second verb a b) 3)

-- the parser has found two words, and no more were there
pub record ArePair (words : List Text) (rows : List Row) : Type 0 where
  pub first : Text
  pub second : Text
  pub words_are : words ≡ first ∷ second ∷ []
  pub first_is : first_of (codes "first") rows ≡ Some first
  pub second_is : first_of (codes "second") rows ≡ Some second

pair_found : (verb : Text) (words : List Text) → ArePlainWords words → fault_from (shape verb) start words ≡ [] → ArePair words (rows_from (shape verb) start words)
pair_found verb [] each right = absurd (some_wrong MissingRequiredArgument [] (sym (none_wrong verb) ∙ right))
pair_found verb ([] ∷ words) each right = absurd each.0
pair_found verb ((x ∷ xs) ∷ []) each right =
    absurd (some_wrong MissingRequiredArgument [] (sym (one_wrong verb (x ∷ xs)) ∙ sym (fault_on (shape verb) start (idle_at (with_first verb (x ∷ xs)) 2) (x ∷ xs) [] (first_leads verb x xs each.0)) ∙ right))
pair_found verb ((x ∷ xs) ∷ [] ∷ words) each right = absurd each.1.0
pair_found verb ((x ∷ xs) ∷ (y ∷ ys) ∷ []) each right =
    let s = shape verb in
    let rows_are = rows_on s start (idle_at (with_first verb (x ∷ xs)) 2) (x ∷ xs) ((y ∷ ys) ∷ []) (first_leads verb x xs each.0)
    ∙ rows_on s (idle_at (with_first verb (x ∷ xs)) 2) (idle_at (with_second verb (x ∷ xs) (y ∷ ys)) 3) (y ∷ ys) [] (second_leads verb (x ∷ xs) y ys each.1.0)
    ∙ end_rows_are s (idle_at (with_second verb (x ∷ xs) (y ∷ ys)) 3) in
    record {
      first = x ∷ xs;
      second = y ∷ ys;
      words_are = refl;
      first_is = ap (first_of (codes "first")) rows_are;
      second_is = ap (first_of (codes "second")) rows_are;
    }
pair_found verb ((x ∷ xs) ∷ (y ∷ ys) ∷ [] ∷ words) each right = absurd each.1.1.0
pair_found verb ((x ∷ xs) ∷ (y ∷ ys) ∷ (z ∷ zs) ∷ words) each right =
    let s = shape verb in
    let third = with_second verb (x ∷ xs) (y ∷ ys) in
    let rest : fault_from s (idle_at third 3) ((z ∷ zs) ∷ words) ≡ [] =
    sym (fault_on s start (idle_at (with_first verb (x ∷ xs)) 2) (x ∷ xs) ((y ∷ ys) ∷ (z ∷ zs) ∷ words) (first_leads verb x xs each.0)
    ∙ fault_on s (idle_at (with_first verb (x ∷ xs)) 2) (idle_at third 3) (y ∷ ys) ((z ∷ zs) ∷ words) (second_leads verb (x ∷ xs) y ys each.1.0)) ∙ right in
    absurd (some_wrong UnknownArgument [] (sym (plain_turn s third idle 3 z zs each.1.1.0) ∙ first_is_right s (idle_at third 3) (z ∷ zs) words rest))

-- what the parser takes is two words
pub taken_is_pair : (verb : Text) (words : List Text) → ArePlainWords words → fault_of (pair_app verb) words ≡ [] → ArePair words (matches_of (pair_app verb) words)
taken_is_pair verb words each right = rw (pair_rows verb words) (pair_found verb words each (sym (pair_fault verb words) ∙ right))

-- two words are taken
pub pair_is_taken : (verb first second : Text) → IsFileName first → IsFileName second → fault_of (pair_app verb) (first ∷ second ∷ []) ≡ []
pair_is_taken verb [] second is_first is_second = absurd is_first
pair_is_taken verb (x ∷ xs) [] is_first is_second = absurd is_second
pair_is_taken verb (x ∷ xs) (y ∷ ys) is_first is_second =
    let s = shape verb in
    pair_fault verb ((x ∷ xs) ∷ (y ∷ ys) ∷ [])
    ∙ fault_on s start (idle_at (with_first verb (x ∷ xs)) 2) (x ∷ xs) ((y ∷ ys) ∷ []) (first_leads verb x xs is_first)
    ∙ fault_on s (idle_at (with_first verb (x ∷ xs)) 2) (idle_at (with_second verb (x ∷ xs) (y ∷ ys)) 3) (y ∷ ys) [] (second_leads verb (x ∷ xs) y ys is_second)
    ∙ two_right verb (x ∷ xs) (y ∷ ys)
