-- The end of the words behind `compile`.
use Rattle.std.proofs.Common.{◌≡◌, ◌∙◌, ◌||◌, ℕ, Bool, cond, codes, true, false, not, refl, ap, ap₂, List, [], ◌∷◌, ◌++◌, map, Option, Some, None, is_some}
use Rattle.std.specs.Prelude.{find, fold, option_and_then, slice_get}
use Rattle.std.specs.Option.{option_map_or}
use Rattle.std.specs.Str.{bytes_eq}
use Rattle.std.proofs.lemmas.Slice.Eq.{bytes_eq-Decides}
use Rattle.clap.specs.Facts.{explicit_source}
use Rattle.clap.specs.Walk.{Held, Row, Rule, Text, first_of, has_row, more_values, one_of, row_text, with_default, default_rows, reading_by}
use Rattle.clap.specs.Takes.{is_given}
use Rattle.clap.specs.Faults.{check_fault, default_fault, defaults_fault, given_default_fault}
use Rattle.clap.specs.Kinds.{Kinds, or_else, check_kinds}
use Rattle.clap.specs.declared.parser.matches.ValueSource.TheVariants.{DefaultValue}
use Rattle.clap.specs.declared.builder.value_parser.Reading.TheVariants.{AsWritten}
use Rattle.qm_words.specs.inner.FoundWords.{AreFound, flag_id}
use Rattle.qm_words.proofs.Given.{Given, at_end, find_last, find_past, first_is, given_is, named, one_is, row_kept, rows, value_of}
use Rattle.qm_words.proofs.Walks.{end_fault_is, end_rows_are, fault_from, no_default, or_else-none, past_default, rows_from}
use Rattle.qm_words.proofs.CompileCommand.{compile_shape}
use Rattle.qm_words.proofs.CompileSteps.{Holds, Knows, Names, Seen, bare_rule, flag_text, idle_at, map_of, out_of, map_rule, out_rule, option_rule, request_of, rules, both}
use Rattle.qm_commands.specs.CompileRequest.{FlagOption, fast_option, hulls_option, models_option, faces_option, flag_in, listing_option, threads_option}

-- the options without a value, in the order of their rules
abbrev flag_ids : List Text
flag_ids = codes "fast" ∷ codes "hulls" ∷ codes "models" ∷ codes "faces" ∷ []

abbrev bare_rules : List Text → List Rule
bare_rules ids = map bare_rule ids

-- the rows with what stands for each of these that was not given
abbrev with_flags : List Text → List Row → List Row
with_flags ids r = fold with_default r (bare_rules ids)

abbrev all_rows : List Given → List Row
all_rows given = with_flags flag_ids (rows given)

rows_at_end : (r : List Row) → fold with_default r rules ≡ with_flags flag_ids r
rows_at_end r =
    let past : (q s : List Row) → q ≡ s → with_flags flag_ids q ≡ with_flags flag_ids s = λ q s e. ap (with_flags flag_ids) e in
    past _ r (ap (λ (q : List Row). with_default (with_default (with_default q out_rule) (option_rule listing_option)) (option_rule threads_option)) (no_default map_rule r refl)
    ∙ ap (λ (q : List Row). with_default (with_default q (option_rule listing_option)) (option_rule threads_option)) (no_default out_rule r refl)
    ∙ ap (λ (q : List Row). with_default q (option_rule threads_option)) (no_default (option_rule listing_option) r refl)
    ∙ no_default (option_rule threads_option) r refl)

no_fault_of_flags : (ids : List Text) (r : List Row) → defaults_fault r (bare_rules ids) ≡ []
unfolding defaults_fault
no_fault_of_flags [] r = refl
no_fault_of_flags (id ∷ ids) r = or_else-none (default_fault r (bare_rule id)) _ (either (has_row id r)) (no_fault_of_flags ids (with_default r (bare_rule id)))
  where
    either : (b : Bool) → cond (b || false) [] (given_default_fault (bare_rule id) (codes "false" ∷ [])) ≡ []
    either true = refl
    either false = refl

no_fault_of_defaults : (r : List Row) → defaults_fault r rules ≡ []
no_fault_of_defaults r =
    past_default map_rule (out_rule ∷ option_rule listing_option ∷ option_rule threads_option ∷ bare_rules flag_ids) r refl
    ∙ past_default out_rule (option_rule listing_option ∷ option_rule threads_option ∷ bare_rules flag_ids) r refl
    ∙ past_default (option_rule listing_option) (option_rule threads_option ∷ bare_rules flag_ids) r refl
    ∙ past_default (option_rule threads_option) (bare_rules flag_ids) r refl ∙ no_fault_of_flags flag_ids r

-- ---- what stands for one option that was not given

abbrev default_row : Text → Row
default_row id = record { id = id; values = codes "false" ∷ []; count = None; source = Some DefaultValue; reading = AsWritten }

default_is : (id : Text) (r : List Row) → has_row id r ≡ false → with_default r (bare_rule id) ≡ r ++ default_row id ∷ []
default_is id r free =
    ap (λ (b : Bool). cond b r (default_rows id (reading_by (bare_rule id)) (codes "false" ∷ []) r)) free
    ∙ at_end id (more_values DefaultValue (codes "false" ∷ [])) (default_row id ∷ []) r free

kept_is : (id : Text) (r : List Row) → has_row id r ≡ true → with_default r (bare_rule id) ≡ r
kept_is id r there = ap (λ (b : Bool). cond b r (default_rows id (reading_by (bare_rule id)) (codes "false" ∷ []) r)) there

-- the rows of other arguments are as they were
find_other : (id other : Text) (r : List Row) → bytes_eq id other ≡ false → find (named other) (with_default r (bare_rule id)) ≡ find (named other) r
find_other id other r differ = by (has_row id r) refl
  where
    by : (b : Bool) → has_row id r ≡ b → find (named other) (with_default r (bare_rule id)) ≡ find (named other) r
    by true is = ap (find (named other)) (kept_is id r is)
    by false is = ap (find (named other)) (default_is id r is) ∙ find_past other r (default_row id) differ

-- its own row says what was asked for
own_row : (id : Text) (r : List Row) (given : List Given) (b : Bool) → find (named id) r ≡ find (named id) (rows given) → value_of id given ≡ flag_text b
    → one_of id (with_default r (bare_rule id)) ≡ Some (cond b (codes "true") (codes "false"))
own_row id r given true same is =
    ap (one_of id) (kept_is id r (row_kept id r given same ∙ ap (λ (o : Option Text). is_some o) is))
    ∙ ap (λ (o : Option Row). option_and_then row_text o) same ∙ one_is id given ∙ is
own_row id r given false same is =
    let free : has_row id r ≡ false = row_kept id r given same ∙ ap (λ (o : Option Text). is_some o) is in
    ap (one_of id) (default_is id r free) ∙ ap (λ (o : Option Row). option_and_then row_text o) (find_last id r (default_row id) free ((bytes_eq-Decides id id).1 refl))

-- ---- what stands for all of them

-- an id that is none of these
abbrev IsNone : Text → List Text → Type 0
IsNone other [] = Unit {0}
IsNone other (id ∷ ids) = (bytes_eq id other ≡ false) × IsNone other ids

find_none : (ids : List Text) (other : Text) (r : List Row) → IsNone other ids → find (named other) (with_flags ids r) ≡ find (named other) r
find_none [] other r none = refl
find_none (id ∷ ids) other r none = find_none ids other (with_default r (bare_rule id)) none.1 ∙ find_other id other r none.0

own_at_end : (before after : List Text) (id : Text) (r : List Row) (given : List Given) (b : Bool) → find (named id) r ≡ find (named id) (rows given) → IsNone id before → IsNone id after
    → value_of id given ≡ flag_text b → one_of id (with_flags (before ++ id ∷ after) r) ≡ Some (cond b (codes "true") (codes "false"))
own_at_end [] after id r given b same none none_after is =
    ap (λ (o : Option Row). option_and_then row_text o) (find_none after id (with_default r (bare_rule id)) none_after) ∙ own_row id r given b same is
own_at_end (x ∷ before) after id r given b same none none_after is =
    own_at_end before after id (with_default r (bare_rule x)) given b (find_other x id r none.0 ∙ same) none.1 none_after is

flag_at_end : (given : List Given) (flag : FlagOption) (b : Bool) → value_of (flag_id flag) given ≡ flag_text b → one_of (flag_id flag) (all_rows given) ≡ Some (cond b (codes "true") (codes "false"))
flag_at_end given fast_option b is = own_at_end [] (codes "hulls" ∷ codes "models" ∷ codes "faces" ∷ []) (codes "fast") (rows given) given b refl tt (refl, (refl, (refl, tt))) is
flag_at_end given hulls_option b is = own_at_end (codes "fast" ∷ []) (codes "models" ∷ codes "faces" ∷ []) (codes "hulls") (rows given) given b refl (refl, tt) (refl, (refl, tt)) is
flag_at_end given models_option b is = own_at_end (codes "fast" ∷ codes "hulls" ∷ []) (codes "faces" ∷ []) (codes "models") (rows given) given b refl (refl, (refl, tt)) (refl, tt) is
flag_at_end given faces_option b is = own_at_end (codes "fast" ∷ codes "hulls" ∷ codes "models" ∷ []) [] (codes "faces") (rows given) given b refl (refl, (refl, (refl, tt))) tt is

module _ (id : Text) (given : List Given) (other : IsNone id flag_ids) where
  first_at_end : first_of id (all_rows given) ≡ value_of id given
  first_at_end = ap (λ (o : Option Row). option_and_then (λ (r : Row). slice_get r.values 0) o) (find_none flag_ids id (rows given) other) ∙ first_is id given

  given_at_end : is_given id (all_rows given) ≡ is_some (value_of id given)
  given_at_end = ap (λ (o : Option Row). option_map_or (λ (r : Row). explicit_source r.source) o false) (find_none flag_ids id (rows given) other) ∙ given_is id given

-- a name is missing
abbrev pub missing : Names → Bool
missing names = not (is_some (map_of names)) || (not (is_some (out_of names)) || false)

check_is : (given : List Given) (seen : Seen) → Knows given seen → check_fault compile_shape (all_rows given) false ≡ check_kinds false false (missing seen.names)
check_is given seen knows =
    ap₂ (λ (m o : Bool). check_kinds false false (not m || (not o || false)))
    (given_at_end (codes "map") given (refl, (refl, (refl, (refl, tt)))) ∙ ap (λ (o : Option Text). is_some o) knows.map_is)
    (given_at_end (codes "out") given (refl, (refl, (refl, (refl, tt)))) ∙ ap (λ (o : Option Text). is_some o) knows.out_is)

pub ends_fault : (h : Held) (position : ℕ) (seen : Seen) → Holds h seen → fault_from compile_shape (idle_at h position) [] ≡ check_kinds false false (missing seen.names)
ends_fault h position seen holds =
    end_fault_is compile_shape (idle_at h position)
    ∙ ap₂ (λ (k : Kinds) (r : List Row). or_else k (or_else (defaults_fault r rules) (check_fault compile_shape (fold with_default r rules) false))) holds.settles holds.rows_are
    ∙ ap₂ (λ (k : Kinds) (r : List Row). or_else k (check_fault compile_shape r false)) (no_fault_of_defaults (rows holds.given)) (rows_at_end (rows holds.given))
    ∙ check_is holds.given seen holds.knows

ends_rows : (h : Held) (position : ℕ) (seen : Seen) (holds : Holds h seen) → rows_from compile_shape (idle_at h position) [] ≡ all_rows holds.given
ends_rows h position seen holds =
    end_rows_are compile_shape (idle_at h position) ∙ ap (λ (r : List Row). fold with_default r rules) holds.rows_are ∙ rows_at_end (rows holds.given)

asked_flag : (seen : Seen) (names : Names) (flag : FlagOption) → Some (cond (seen.flags flag) (codes "true") (codes "false")) ≡ Some (cond (flag_in (request_of (record seen { names = names })) flag) (codes "true") (codes "false"))
asked_flag seen names fast_option = refl
asked_flag seen names hulls_option = refl
asked_flag seen names models_option = refl
asked_flag seen names faces_option = refl

pub ends_found : (h : Held) (position : ℕ) (seen : Seen) (map_name out_name : Text) → Holds h (record seen { names = both map_name out_name })
    → AreFound (rows_from compile_shape (idle_at h position) []) (request_of (record seen { names = both map_name out_name }))
ends_found h position seen map_name out_name holds =
    let end = ends_rows h position (record seen { names = both map_name out_name }) holds in
    let given = holds.given in
    record {
      map_name = map_name;
      out_name = out_name;
      names = refl;
      map_is = ap (first_of (codes "map")) end ∙ first_at_end (codes "map") given (refl, (refl, (refl, (refl, tt)))) ∙ holds.knows.map_is;
      out_is = ap (first_of (codes "out")) end ∙ first_at_end (codes "out") given (refl, (refl, (refl, (refl, tt)))) ∙ holds.knows.out_is;
      listing_is = ap (first_of (codes "prt")) end ∙ first_at_end (codes "prt") given (refl, (refl, (refl, (refl, tt)))) ∙ holds.knows.listing_is;
      threads_is = ap (first_of (codes "threads")) end ∙ first_at_end (codes "threads") given (refl, (refl, (refl, (refl, tt)))) ∙ holds.knows.threads_is;
      flags_are = λ flag. ap (one_of (flag_id flag)) end ∙ flag_at_end given flag (seen.flags flag) (holds.knows.flags_are flag) ∙ asked_flag seen (both map_name out_name) flag;
    }
