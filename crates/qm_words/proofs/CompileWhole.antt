-- All words behind `compile`.
use Rattle.std.proofs.Common.{◌≡◌, ◌≢◌, ◌∙◌, ◌≤◌, ℕ, Bool, cond, codes, true, false, refl, sym, ap, ap₂, subst, arith, List, [], ◌∷◌, ◌++◌, length, length-append, Some, None}
use Rattle.clap.specs.Walk.{Held, Row, Text, Walk, idle, option, nothing_held, settled}
use Rattle.clap.specs.Kinds.{check_kinds}
use Rattle.clap.specs.declared.error.kind.ErrorKind.TheVariants.{InvalidValue, MissingRequiredArgument, UnknownArgument}
use Rattle.clap.specs.Faults.{fault_of, settle_fault, turn_fault}
use Rattle.qm_commands.specs.CompileRequest.{Request, Asks, FlagOption, fast_option, hulls_option, models_option, faces_option, ValuedOption, listing_option, threads_option, no_more, a_name, without_value, value_behind, value_within, no_request, flag_in, flag_spelling, option_spelling, value_in, with_flag, with_name, with_option}
use Rattle.qm_commands.specs.FileNames.{IsFileName}
use Rattle.qm_words.specs.inner.CommandLines.{compile_app}
use Rattle.qm_words.specs.inner.CompileWord.{EachIsCompileWord, IsCompileWord, plain, bare, alone, within}
use Rattle.qm_words.specs.inner.FoundWords.{AreFound}
use Rattle.qm_words.proofs.Walks.{Leads, end_fault_is, fault_from, fault_on, first_is_right, first_none, plain_turn, positional_settles, rows_from, rows_on, some_wrong, word_right}
use Rattle.clap.specs.Simple.{matches_of}
use Rattle.qm_words.proofs.CompileCommand.{compile_fault, compile_rows, compile_shape}
use Rattle.qm_words.proofs.CompileSteps.{Holds, Names, Seen, neither, one, both, alone_leads, due_at, flag_free, option_settles, goes_flag, goes_map, goes_out, goes_within, holds_value, idle_at, map_rule, out_rule, option_id, place_of, reading, read_free, request_of, rules, seen_value, seen_with, seen_with_flag, value_leads, with_value_read, within_free}
use Rattle.qm_words.proofs.CompileEnds.{ends_fault, ends_found, missing}

abbrev due : Held → ValuedOption → Held
due h kind = reading h (settled rules h).rows (option_id kind) []

-- ---- what is held settles where nothing goes wrong later

name_settles : (h : Held) (names : Names) (word : Text) → IsFileName word → turn_fault compile_shape [] (idle_at h (place_of names)) word ≡ [] → settle_fault rules false h ≡ []
name_settles h names [] is right = absurd is
name_settles h neither (byte ∷ bytes) is right = sym (positional_settles rules map_rule h refl) ∙ sym (plain_turn compile_shape h idle 1 byte bytes is) ∙ right
name_settles h (one map_name) (byte ∷ bytes) is right = sym (positional_settles rules out_rule h refl) ∙ sym (plain_turn compile_shape h idle 2 byte bytes is) ∙ right
name_settles h (both map_name out_name) (byte ∷ bytes) is right = absurd (some_wrong UnknownArgument [] (sym (plain_turn compile_shape h idle 3 byte bytes is) ∙ right))

no_name_flag : (flag : FlagOption) (word : Text) → word ≡ flag_spelling flag → IsFileName word → ⊥
no_name_flag fast_option word is name = subst IsFileName is name refl
no_name_flag hulls_option word is name = subst IsFileName is name refl
no_name_flag models_option word is name = subst IsFileName is name refl
no_name_flag faces_option word is name = subst IsFileName is name refl

no_name_alone : (kind : ValuedOption) (word : Text) → word ≡ option_spelling kind → IsFileName word → ⊥
no_name_alone listing_option word is name = subst IsFileName is name refl
no_name_alone threads_option word is name = subst IsFileName is name refl

no_name_within : (kind : ValuedOption) (text word : Text) → word ≡ option_spelling kind ++ (61 ∷ text) → IsFileName word → ⊥
no_name_within listing_option text word is name = subst IsFileName is name refl
no_name_within threads_option text word is name = subst IsFileName is name refl

word_settles : (h : Held) (names : Names) (word : Text) → IsCompileWord word → turn_fault compile_shape [] (idle_at h (place_of names)) word ≡ [] → settle_fault rules false h ≡ []
word_settles h names word (plain is) right = name_settles h names word is right
word_settles h names word (bare flag is) right = option_settles h word (bare flag is) (no_name_flag flag word is) (word_right compile_shape h idle (place_of names) word right)
word_settles h names word (alone kind is) right = option_settles h word (alone kind is) (no_name_alone kind word is) (word_right compile_shape h idle (place_of names) word right)
word_settles h names word (within kind text is some) right = option_settles h word (within kind text is some) (no_name_within kind text word is) (word_right compile_shape h idle (place_of names) word right)

words_settle : (h : Held) (names : Names) (words : List Text) → EachIsCompileWord words → fault_from compile_shape (idle_at h (place_of names)) words ≡ [] → settle_fault rules false h ≡ []
words_settle h names [] each right = first_none (settle_fault rules false h) _ (sym (end_fault_is compile_shape (idle_at h (place_of names))) ∙ right)
words_settle h names (word ∷ words) each right = word_settles h names word each.0 (first_is_right compile_shape (idle_at h (place_of names)) word words right)

-- ---- what the parser takes is asked for

pub record IsRead (seen : Seen) (words : List Text) (r : List Row) : Type 0 where
  pub all : Request
  pub asks : Asks (request_of seen) words all
  pub found : AreFound r all

abbrev Taken : List Text → Type 0
Taken words = (h : Held) (seen : Seen) → Holds h seen → fault_from compile_shape (idle_at h (place_of seen.names)) words ≡ []
    → IsRead seen words (rows_from compile_shape (idle_at h (place_of seen.names)) words)

abbrev due_walk : Held → Seen → ValuedOption → Walk
due_walk h seen kind = due_at (due h kind) (place_of seen.names) (option_id kind)

abbrev TakenDue : List Text → Type 0
TakenDue words = (h : Held) (seen : Seen) (kind : ValuedOption) → Holds h seen → fault_from compile_shape (due_walk h seen kind) words ≡ []
    → IsRead seen (option_spelling kind ∷ words) (rows_from compile_shape (due_walk h seen kind) words)

value_seen : (seen : Seen) (kind : ValuedOption) → value_in (request_of seen) kind ≡ seen_value seen kind
value_seen seen listing_option = refl
value_seen seen threads_option = refl

request_with : (seen : Seen) (kind : ValuedOption) (text : Text) → request_of (seen_with seen kind text) ≡ with_option (request_of seen) kind text
request_with seen listing_option text = refl
request_with seen threads_option text = refl

flag_seen : (seen : Seen) (flag : FlagOption) → flag_in (request_of seen) flag ≡ seen.flags flag
flag_seen seen fast_option = refl
flag_seen seen hulls_option = refl
flag_seen seen models_option = refl
flag_seen seen faces_option = refl

request_with_flag : (seen : Seen) (flag : FlagOption) → request_of (seen_with_flag seen flag) ≡ with_flag (request_of seen) flag
request_with_flag seen fast_option = refl
request_with_flag seen hulls_option = refl
request_with_flag seen models_option = refl
request_with_flag seen faces_option = refl

-- with the same words and rows under other names
read_as : (seen : Seen) (words : List Text) (r q : List Row) → r ≡ q → IsRead seen words q → IsRead seen words r
read_as seen words r q same read = subst (IsRead seen words) (sym same) read

taken_end : Taken []
taken_end h seen holds right = end seen.names refl
  where
    end : (names : Names) → seen.names ≡ names → IsRead seen [] (rows_from compile_shape (idle_at h (place_of seen.names)) [])
    end neither are = absurd (some_wrong MissingRequiredArgument [] (ap (λ (n : Names). check_kinds false false (missing n)) (sym are) ∙ sym (ends_fault h (place_of seen.names) seen holds) ∙ right))
    end (one map_name) are = absurd (some_wrong MissingRequiredArgument [] (ap (λ (n : Names). check_kinds false false (missing n)) (sym are) ∙ sym (ends_fault h (place_of seen.names) seen holds) ∙ right))
    end (both map_name out_name) are =
        let same : ◌≡◌ {A = Seen} (record seen { names = both map_name out_name }) seen = ap (λ (n : Names). record seen { names = n }) (sym are) in
        record {
          all = request_of seen;
          asks = no_more;
          found = subst (λ (s : Seen). AreFound (rows_from compile_shape (idle_at h (place_of seen.names)) []) (request_of s)) same
              (ends_found h (place_of seen.names) seen map_name out_name (subst (λ (s : Seen). Holds h s) (sym same) holds));
        }

taken_name : (words : List Text) → Taken words → (word : Text) → IsFileName word → (h : Held) (names : Names) (seen : Seen) → Holds h (record seen { names = names })
    → fault_from compile_shape (idle_at h (place_of names)) (word ∷ words) ≡ [] → IsRead (record seen { names = names }) (word ∷ words) (rows_from compile_shape (idle_at h (place_of names)) (word ∷ words))
taken_name words taken [] is h names seen holds right = absurd is
taken_name words taken (byte ∷ bytes) is h neither seen holds right =
    let goes = goes_map h seen byte bytes is holds in
    let read = taken goes.next (record seen { names = one (byte ∷ bytes) }) goes.holds (sym (fault_on compile_shape (idle_at h 1) (idle_at goes.next 2) (byte ∷ bytes) words goes.leads) ∙ right) in
    read_as (record seen { names = neither }) ((byte ∷ bytes) ∷ words) _ _ (rows_on compile_shape (idle_at h 1) (idle_at goes.next 2) (byte ∷ bytes) words goes.leads)
    (record { all = read.all; asks = a_name is read.asks; found = read.found })
taken_name words taken (byte ∷ bytes) is h (one map_name) seen holds right =
    let goes = goes_out h seen map_name byte bytes is holds in
    let read = taken goes.next (record seen { names = both map_name (byte ∷ bytes) }) goes.holds (sym (fault_on compile_shape (idle_at h 2) (idle_at goes.next 3) (byte ∷ bytes) words goes.leads) ∙ right) in
    read_as (record seen { names = one map_name }) ((byte ∷ bytes) ∷ words) _ _ (rows_on compile_shape (idle_at h 2) (idle_at goes.next 3) (byte ∷ bytes) words goes.leads)
    (record { all = read.all; asks = a_name is read.asks; found = read.found })
taken_name words taken (byte ∷ bytes) is h (both map_name out_name) seen holds right =
    absurd (some_wrong UnknownArgument [] (sym (plain_turn compile_shape h idle 3 byte bytes is) ∙ first_is_right compile_shape (idle_at h 3) (byte ∷ bytes) words right))

taken_flag : (words : List Text) → Taken words → (flag : FlagOption) → (h : Held) (seen : Seen) → Holds h seen
    → fault_from compile_shape (idle_at h (place_of seen.names)) (flag_spelling flag ∷ words) ≡ []
    → IsRead seen (flag_spelling flag ∷ words) (rows_from compile_shape (idle_at h (place_of seen.names)) (flag_spelling flag ∷ words))
taken_flag words taken flag h seen holds right =
    let place = place_of seen.names in
    let word = flag_spelling flag in
    let free = flag_free h seen flag holds (word_right compile_shape h idle place word (first_is_right compile_shape (idle_at h place) word words right)) in
    let goes = goes_flag h place seen flag holds free in
    let read = taken goes.next (seen_with_flag seen flag) goes.holds (sym (fault_on compile_shape (idle_at h place) (idle_at goes.next place) word words goes.leads) ∙ right) in
    read_as seen (word ∷ words) _ _ (rows_on compile_shape (idle_at h place) (idle_at goes.next place) word words goes.leads)
    (record {
      all = read.all;
      asks = without_value flag refl (flag_seen seen flag ∙ free) (subst (λ (r : Request). Asks r words read.all) (request_with_flag seen flag) read.asks);
      found = read.found;
    })

taken_within : (words : List Text) → Taken words → (kind : ValuedOption) (text : Text) → text ≢ [] → (h : Held) (seen : Seen) → Holds h seen
    → fault_from compile_shape (idle_at h (place_of seen.names)) ((option_spelling kind ++ (61 ∷ text)) ∷ words) ≡ []
    → IsRead seen ((option_spelling kind ++ (61 ∷ text)) ∷ words) (rows_from compile_shape (idle_at h (place_of seen.names)) ((option_spelling kind ++ (61 ∷ text)) ∷ words))
taken_within words taken kind text some h seen holds right =
    let place = place_of seen.names in
    let word = option_spelling kind ++ (61 ∷ text) in
    let free = within_free h seen kind text holds (word_right compile_shape h idle place word (first_is_right compile_shape (idle_at h place) word words right)) in
    let goes = goes_within h place seen kind text holds free in
    let read = taken goes.next (seen_with seen kind text) goes.holds (sym (fault_on compile_shape (idle_at h place) (idle_at goes.next place) word words goes.leads) ∙ right) in
    read_as seen (word ∷ words) _ _ (rows_on compile_shape (idle_at h place) (idle_at goes.next place) word words goes.leads)
    (record {
      all = read.all;
      asks = value_within kind refl some (value_seen seen kind ∙ free) (subst (λ (r : Request). Asks r words read.all) (request_with seen kind text) read.asks);
      found = read.found;
    })

taken_due : (words : List Text) → EachIsCompileWord words → Taken words → (byte : ℕ) (bytes : Text) → byte ≢ 45 → (h : Held) (seen : Seen) (kind : ValuedOption) → Holds h seen
    → fault_from compile_shape (due_walk h seen kind) ((byte ∷ bytes) ∷ words) ≡ [] → IsRead seen (option_spelling kind ∷ (byte ∷ bytes) ∷ words) (rows_from compile_shape (due_walk h seen kind) ((byte ∷ bytes) ∷ words))
taken_due words each taken byte bytes is h seen kind holds right =
    let place = place_of seen.names in
    let word = byte ∷ bytes in
    let next = with_value_read h kind word in
    let leads = value_leads h (settled rules h).rows place kind byte bytes is in
    let goes_on : fault_from compile_shape (idle_at next place) words ≡ [] = sym (fault_on compile_shape (due_walk h seen kind) (idle_at next place) word words leads) ∙ right in
    let free = read_free h seen kind word holds (words_settle next seen.names words each goes_on) in
    let read = taken next (seen_with seen kind word) (holds_value h seen kind word holds free) goes_on in
    read_as seen (option_spelling kind ∷ word ∷ words) _ _ (rows_on compile_shape (due_walk h seen kind) (idle_at next place) word words leads)
    (record {
      all = read.all;
      asks = value_behind kind refl is (value_seen seen kind ∙ free) (subst (λ (r : Request). Asks r words read.all) (request_with seen kind word) read.asks);
      found = read.found;
    })

-- a value is due, and does not settle without one
due_wrong : (h : Held) (kind : ValuedOption) → settle_fault rules false (due h kind) ≡ [] → ⊥
due_wrong h listing_option right = some_wrong InvalidValue [] right
due_wrong h threads_option right = some_wrong InvalidValue [] right

no_value : TakenDue []
no_value h seen kind holds right = absurd (due_wrong h kind (first_none (settle_fault rules false (due h kind)) _ (sym (end_fault_is compile_shape (due_walk h seen kind)) ∙ right)))

a_value : (word : Text) (words : List Text) → IsCompileWord word → EachIsCompileWord words → Taken words → TakenDue (word ∷ words)
a_value [] words (plain is) each taken h seen kind holds right = absurd is
a_value (byte ∷ bytes) words (plain is) each taken h seen kind holds right = taken_due words each taken byte bytes is h seen kind holds right
a_value word words (bare flag is) each taken h seen kind holds right =
    absurd (due_wrong h kind (option_settles (due h kind) word (bare flag is) (no_name_flag flag word is) (word_right compile_shape (due h kind) (option (option_id kind)) (place_of seen.names) word (first_is_right compile_shape (due_walk h seen kind) word words right))))
a_value word words (alone k is) each taken h seen kind holds right =
    absurd (due_wrong h kind (option_settles (due h kind) word (alone k is) (no_name_alone k word is) (word_right compile_shape (due h kind) (option (option_id kind)) (place_of seen.names) word (first_is_right compile_shape (due_walk h seen kind) word words right))))
a_value word words (within k text is some) each taken h seen kind holds right =
    absurd (due_wrong h kind (option_settles (due h kind) word (within k text is some) (no_name_within k text word is) (word_right compile_shape (due h kind) (option (option_id kind)) (place_of seen.names) word (first_is_right compile_shape (due_walk h seen kind) word words right))))

taken_alone : (words : List Text) → EachIsCompileWord words → TakenDue words → (kind : ValuedOption) → (h : Held) (seen : Seen) → Holds h seen
    → fault_from compile_shape (idle_at h (place_of seen.names)) (option_spelling kind ∷ words) ≡ []
    → IsRead seen (option_spelling kind ∷ words) (rows_from compile_shape (idle_at h (place_of seen.names)) (option_spelling kind ∷ words))
taken_alone words each taken kind h seen holds right =
    let leads = alone_leads h (place_of seen.names) kind holds.settles in
    read_as seen (option_spelling kind ∷ words) _ _ (rows_on compile_shape (idle_at h (place_of seen.names)) (due_walk h seen kind) (option_spelling kind) words leads)
    (taken h seen kind holds (sym (fault_on compile_shape (idle_at h (place_of seen.names)) (due_walk h seen kind) (option_spelling kind) words leads) ∙ right))

a_word : (word : Text) (words : List Text) → IsCompileWord word → EachIsCompileWord words → Taken words → TakenDue words → Taken (word ∷ words)
a_word word words (plain is) each taken due h seen holds right = taken_name words taken word is h seen.names seen holds right
a_word word words (bare flag is) each taken due h seen holds right =
    let W : Text → Type 0 = λ w. fault_from compile_shape (idle_at h (place_of seen.names)) (w ∷ words) ≡ [] → IsRead seen (w ∷ words) (rows_from compile_shape (idle_at h (place_of seen.names)) (w ∷ words)) in
    subst W (sym is) (taken_flag words taken flag h seen holds) right
a_word word words (alone kind is) each taken due h seen holds right =
    let W : Text → Type 0 = λ w. fault_from compile_shape (idle_at h (place_of seen.names)) (w ∷ words) ≡ [] → IsRead seen (w ∷ words) (rows_from compile_shape (idle_at h (place_of seen.names)) (w ∷ words)) in
    subst W (sym is) (taken_alone words each due kind h seen holds) right
a_word word words (within kind text is some) each taken due h seen holds right =
    let W : Text → Type 0 = λ w. fault_from compile_shape (idle_at h (place_of seen.names)) (w ∷ words) ≡ [] → IsRead seen (w ∷ words) (rows_from compile_shape (idle_at h (place_of seen.names)) (w ∷ words)) in
    subst W (sym is) (taken_within words taken kind text some h seen holds) right

all_taken : (words : List Text) → EachIsCompileWord words → Taken words
all_taken [] each = taken_end
all_taken (word ∷ []) each = a_word word [] each.0 tt taken_end no_value
all_taken (word ∷ text ∷ words) each = a_word word (text ∷ words) each.0 each.1 (all_taken (text ∷ words) each.1) (a_value text words each.1.0 each.1.1 (all_taken words each.1.1))

-- ---- what is asked for the parser takes

-- the parser finds nothing wrong over these words, and its rows are what is asked for
pub record IsFoundFrom (w : Walk) (words : List Text) (all : Request) : Type 0 where
  pub right : fault_from compile_shape w words ≡ []
  pub found : AreFound (rows_from compile_shape w words) all

found_on : (w next : Walk) (word : Text) (words : List Text) (all : Request) → Leads compile_shape w word next → IsFoundFrom next words all → IsFoundFrom w (word ∷ words) all
found_on w next word words all leads from = record {
  right = fault_on compile_shape w next word words leads ∙ from.right;
  found = subst (λ (r : List Row). AreFound r all) (sym (rows_on compile_shape w next word words leads)) from.found;
}

abbrev GivenBack : Request → List Text → Request → Type 0
GivenBack asked words all = (h : Held) (seen : Seen) → asked ≡ request_of seen → length all.names ≡ 2 → Holds h seen → IsFoundFrom (idle_at h (place_of seen.names)) words all

pub names_stay : {asked all : Request} {words : List Text} → Asks asked words all → length asked.names ≤ length all.names
names_stay no_more = omega arith
names_stay {asked} {all} (a_name {word = word} is more) = omega (arith, names_stay more, length-append asked.names (word ∷ []))
names_stay (without_value fast_option is free more) = names_stay more
names_stay (without_value hulls_option is free more) = names_stay more
names_stay (without_value models_option is free more) = names_stay more
names_stay (without_value faces_option is free more) = names_stay more
names_stay (value_behind listing_option is some free more) = names_stay more
names_stay (value_behind threads_option is some free more) = names_stay more
names_stay (value_within listing_option is some free more) = names_stay more
names_stay (value_within threads_option is some free more) = names_stay more

back_end : (asked : Request) → GivenBack asked [] asked
back_end asked h seen is two holds = whole seen.names holds is
  where
    whole : (names : Names) → Holds h (record seen { names = names }) → asked ≡ request_of (record seen { names = names }) → IsFoundFrom (idle_at h (place_of names)) [] asked
    whole neither held e = let none : 0 ≡ 2 = sym (ap (λ (r : Request). length r.names) e) ∙ two in absurd (omega (arith, none))
    whole (one map_name) held e = let few : 1 ≡ 2 = sym (ap (λ (r : Request). length r.names) e) ∙ two in absurd (omega (arith, few))
    whole (both map_name out_name) held e = record {
      right = ends_fault h 3 (record seen { names = both map_name out_name }) held;
      found = subst (λ (r : Request). AreFound (rows_from compile_shape (idle_at h 3) []) r) (sym e) (ends_found h 3 seen map_name out_name held);
    }

back_name : (asked all : Request) (word : Text) (words : List Text) → IsFileName word → length (with_name asked word).names ≤ length all.names
    → GivenBack (with_name asked word) words all → GivenBack asked (word ∷ words) all
back_name asked all [] words is few back h seen same two holds = absurd is
back_name asked all (byte ∷ bytes) words is few back h seen same two holds =
    by_names seen.names holds same
  where
    named : (names : Names) → asked ≡ request_of (record seen { names = names }) → with_name asked (byte ∷ bytes) ≡ with_name (request_of (record seen { names = names })) (byte ∷ bytes)
    named names e = ap (λ (r : Request). with_name r (byte ∷ bytes)) e

    by_names : (names : Names) → Holds h (record seen { names = names }) → asked ≡ request_of (record seen { names = names })
        → IsFoundFrom (idle_at h (place_of names)) ((byte ∷ bytes) ∷ words) all
    by_names neither held e =
        let goes = goes_map h seen byte bytes is held in
        found_on (idle_at h 1) (idle_at goes.next 2) (byte ∷ bytes) words all goes.leads (back goes.next (record seen { names = one (byte ∷ bytes) }) (named neither e) two goes.holds)
    by_names (one map_name) held e =
        let goes = goes_out h seen map_name byte bytes is held in
        found_on (idle_at h 2) (idle_at goes.next 3) (byte ∷ bytes) words all goes.leads (back goes.next (record seen { names = both map_name (byte ∷ bytes) }) (named (one map_name) e) two goes.holds)
    by_names (both map_name out_name) held e =
        let three : length (with_name asked (byte ∷ bytes)).names ≡ 3 = ap (λ (r : Request). length r.names) (named (both map_name out_name) e) in
        absurd (omega (arith, three, few, two))

back_flag : (asked all : Request) (words : List Text) (flag : FlagOption) → flag_in asked flag ≡ false → GivenBack (with_flag asked flag) words all → GivenBack asked (flag_spelling flag ∷ words) all
back_flag asked all words flag free back h seen same two holds =
    let place = place_of seen.names in
    let goes = goes_flag h place seen flag holds (sym (flag_seen seen flag) ∙ sym (ap (λ (r : Request). flag_in r flag) same) ∙ free) in
    found_on (idle_at h place) (idle_at goes.next place) (flag_spelling flag) words all goes.leads
    (back goes.next (seen_with_flag seen flag) (ap (λ (r : Request). with_flag r flag) same ∙ sym (request_with_flag seen flag)) two goes.holds)

seen_free : (asked : Request) (seen : Seen) (kind : ValuedOption) → asked ≡ request_of seen → value_in asked kind ≡ None → seen_value seen kind ≡ None
seen_free asked seen kind same free = sym (value_seen seen kind) ∙ sym (ap (λ (r : Request). value_in r kind) same) ∙ free

back_within : (asked all : Request) (words : List Text) (kind : ValuedOption) (text : Text) → value_in asked kind ≡ None
    → GivenBack (with_option asked kind text) words all → GivenBack asked ((option_spelling kind ++ (61 ∷ text)) ∷ words) all
back_within asked all words kind text free back h seen same two holds =
    let place = place_of seen.names in
    let goes = goes_within h place seen kind text holds (seen_free asked seen kind same free) in
    found_on (idle_at h place) (idle_at goes.next place) (option_spelling kind ++ (61 ∷ text)) words all goes.leads
    (back goes.next (seen_with seen kind text) (ap (λ (r : Request). with_option r kind text) same ∙ sym (request_with seen kind text)) two goes.holds)

back_behind : (asked all : Request) (words : List Text) (kind : ValuedOption) (text : Text) → IsFileName text → value_in asked kind ≡ None
    → GivenBack (with_option asked kind text) words all → GivenBack asked (option_spelling kind ∷ text ∷ words) all
back_behind asked all words kind [] is free back h seen same two holds = absurd is
back_behind asked all words kind (byte ∷ bytes) is free back h seen same two holds =
    let place = place_of seen.names in
    let word = byte ∷ bytes in
    let next = with_value_read h kind word in
    found_on (idle_at h place) (due_walk h seen kind) (option_spelling kind) (word ∷ words) all (alone_leads h place kind holds.settles)
    (found_on (due_walk h seen kind) (idle_at next place) word words all (value_leads h (settled rules h).rows place kind byte bytes is)
    (back next (seen_with seen kind word) (ap (λ (r : Request). with_option r kind word) same ∙ sym (request_with seen kind word)) two
    (holds_value h seen kind word holds (seen_free asked seen kind same free))))

all_back : {asked all : Request} {words : List Text} → Asks asked words all → GivenBack asked words all
all_back {asked} no_more = back_end asked
all_back {asked} {all} (a_name {word = word} {words = words} is more) = back_name asked all word words is (names_stay more) (all_back more)
all_back {asked} {all} (without_value {words = words} flag is free more) =
    subst (λ (w : Text). GivenBack asked (w ∷ words) all) (sym is) (back_flag asked all words flag free (all_back more))
all_back {asked} {all} (value_behind {text = text} {words = words} kind is some free more) =
    subst (λ (w : Text). GivenBack asked (w ∷ text ∷ words) all) (sym is) (back_behind asked all words kind text some free (all_back more))
all_back {asked} {all} (value_within {text = text} {words = words} kind is some free more) =
    subst (λ (w : Text). GivenBack asked (w ∷ words) all) (sym is) (back_within asked all words kind text free (all_back more))

-- what is asked for has words that are each one by itself
pub each_asked : {asked all : Request} {words : List Text} → Asks asked words all → EachIsCompileWord words
each_asked no_more = tt
each_asked (a_name is more) = (plain is, each_asked more)
each_asked (without_value flag is free more) = (bare flag is, each_asked more)
each_asked (value_behind kind is some free more) = (alone kind is, (plain some, each_asked more))
each_asked (value_within {text = text} kind is some free more) = (within kind text is some, each_asked more)

-- ---- from the first word on

nothing_seen : Seen
nothing_seen = record { names = neither; flags = λ flag. false; listing = None; threads = None }

holds_nothing : Holds nothing_held nothing_seen
unfolding nothing_seen
holds_nothing = record { settles = refl; given = []; rows_are = refl; knows = record { map_is = refl; out_is = refl; flags_are = λ flag. refl; listing_is = refl; threads_is = refl } }

-- the parser finds nothing wrong: its rows are what the words ask for
pub record IsTaken (words : List Text) (r : List Row) : Type 0 where
  pub all : Request
  pub asks : Asks no_request words all
  pub found : AreFound r all

pub taken_is_asked : (words : List Text) → EachIsCompileWord words → fault_of compile_app words ≡ [] → IsTaken words (matches_of compile_app words)
unfolding nothing_seen
taken_is_asked words each right =
    let read = all_taken words each nothing_held nothing_seen holds_nothing (sym (compile_fault words) ∙ right) in
    record { all = read.all; asks = read.asks; found = subst (λ (r : List Row). AreFound r read.all) (sym (compile_rows words)) read.found }

-- two names are asked for: the parser finds nothing wrong, and what is asked for
pub asked_is_taken : (words : List Text) (all : Request) → Asks no_request words all → length all.names ≡ 2 → (fault_of compile_app words ≡ []) × AreFound (matches_of compile_app words) all
unfolding nothing_seen
asked_is_taken words all asks two =
    let from = all_back asks nothing_held nothing_seen refl two holds_nothing in
    (compile_fault words ∙ from.right, subst (λ (r : List Row). AreFound r all) (sym (compile_rows words)) from.found)

-- ---- the same words ask for one thing

some_same : (a b : Text) → Some a ≡ Some b → a ≡ b
some_same a b same = cc

pub found_once : (r : List Row) (a b : Request) → AreFound r a → AreFound r b → a ≡ b
found_once r a b found_a found_b =
    let map_same = some_same found_a.map_name found_b.map_name (sym found_a.map_is ∙ found_b.map_is) in
    let out_same = some_same found_a.out_name found_b.out_name (sym found_a.out_is ∙ found_b.out_is) in
    let names = found_a.names ∙ ap₂ (λ (m o : Text). m ∷ o ∷ []) map_same out_same ∙ sym found_b.names in
    let listing = sym found_a.listing_is ∙ found_b.listing_is in
    let threads = sym found_a.threads_is ∙ found_b.threads_is in
    let fast = flag_same a.fast b.fast (sym (found_a.flags_are fast_option) ∙ found_b.flags_are fast_option) in
    let hulls = flag_same a.hulls b.hulls (sym (found_a.flags_are hulls_option) ∙ found_b.flags_are hulls_option) in
    let models = flag_same a.models b.models (sym (found_a.flags_are models_option) ∙ found_b.flags_are models_option) in
    let faces = flag_same a.faces b.faces (sym (found_a.flags_are faces_option) ∙ found_b.flags_are faces_option) in
    λ i. record { names = names i; fast = fast i; hulls = hulls i; models = models i; faces = faces i; listing = listing i; threads = threads i }
  where
    flag_same : (x y : Bool) → Some (cond x (codes "true") (codes "false")) ≡ Some (cond y (codes "true") (codes "false")) → x ≡ y
    flag_same true true same = refl
    flag_same true false same = absurd cc
    flag_same false true same = absurd cc
    flag_same false false same = refl

pub asked_once : (words : List Text) (a b : Request) → Asks no_request words a → Asks no_request words b → length a.names ≡ 2 → length b.names ≡ 2 → a ≡ b
asked_once words a b asks_a asks_b two_a two_b =
    found_once (matches_of compile_app words) a b (asked_is_taken words a asks_a two_a).1 (asked_is_taken words b asks_b two_b).1
