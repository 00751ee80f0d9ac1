-- One word more of the words behind `compile`.
use Rattle.std.proofs.Common.{◌≡◌, ◌≢◌, ◌∙◌, ◌||◌, ℕ, Bool, codes, true, false, refl, sym, ap, subst, List, [], ◌∷◌, ◌++◌, Option, Some, None, is_some}
use Rattle.std.specs.Str.{bytes_eq}
use Rattle.std.proofs.lemmas.Slice.Eq.{bytes_eq-Decides}
use Rattle.clap.specs.Walk.{Held, Row, Rule, Text, Walk, idle, option, walked, settled, has_row, used}
use Rattle.clap.specs.Simple.{filled, with_index}
use Rattle.clap.specs.Faults.{settle_fault, other_fault, set_fault, values_fault}
use Rattle.qm_commands.specs.CompileRequest.{Request, FlagOption, fast_option, hulls_option, models_option, faces_option, flag_spelling, ValuedOption, listing_option, threads_option, option_spelling}
use Rattle.qm_commands.specs.FileNames.{IsFileName}
use Rattle.qm_words.specs.inner.CompileWord.{IsCompileWord, plain, bare, alone, within}
use Rattle.qm_words.specs.inner.FoundWords.{flag_id}
use Rattle.qm_words.proofs.Given.{Given, has_row_is, rows, value_of, not_given, used_once, value_past, value_last}
use Rattle.qm_words.proofs.Walks.{Leads, first_none, or_else-none, second_none, set_free, plain_leads, positional_holds, positional_settles, set_passes}
use Rattle.qm_words.proofs.CompileCommand.{compile_shape}
use Rattle.qm_words.specs.inner.CommandLines.{flag_rule, name_rule, value_rule}

abbrev pub rules : List Rule
rules = compile_shape.rules

-- the names so far
pub data Names : Type 0 where
  neither : Names
  one : Text → Names
  both : Text → Text → Names

abbrev pub list_of : Names → List Text
list_of neither = []
list_of (one map_name) = map_name ∷ []
list_of (both map_name out_name) = map_name ∷ out_name ∷ []

-- the place of the next name
abbrev pub place_of : Names → ℕ
place_of neither = 1
place_of (one map_name) = 2
place_of (both map_name out_name) = 3

abbrev pub map_of : Names → Option Text
map_of neither = None
map_of (one map_name) = Some map_name
map_of (both map_name out_name) = Some map_name

abbrev pub out_of : Names → Option Text
out_of neither = None
out_of (one map_name) = None
out_of (both map_name out_name) = Some out_name

-- what was asked for so far
pub record Seen : Type 0 where
  pub names : Names
  pub flags : FlagOption → Bool
  pub listing : Option Text
  pub threads : Option Text

abbrev pub request_of : Seen → Request
request_of seen = record {
  names = list_of seen.names;
  fast = seen.flags fast_option;
  hulls = seen.flags hulls_option;
  models = seen.flags models_option;
  faces = seen.flags faces_option;
  listing = seen.listing;
  threads = seen.threads;
}

abbrev pub seen_with_flag : Seen → FlagOption → Seen
seen_with_flag seen flag = record seen { flags = λ other. bytes_eq (flag_id flag) (flag_id other) || seen.flags other }

abbrev pub seen_value : Seen → ValuedOption → Option Text
seen_value seen listing_option = seen.listing
seen_value seen threads_option = seen.threads

abbrev pub listing_with : ValuedOption → Text → Option Text → Option Text
listing_with listing_option text before = Some text
listing_with threads_option text before = before

abbrev pub threads_with : ValuedOption → Text → Option Text → Option Text
threads_with listing_option text before = before
threads_with threads_option text before = Some text

abbrev pub seen_with : Seen → ValuedOption → Text → Seen
seen_with seen kind text = record seen { listing = listing_with kind text seen.listing; threads = threads_with kind text seen.threads }

abbrev pub flag_text : Bool → Option Text
flag_text true = Some (codes "true")
flag_text false = None

abbrev pub option_id : ValuedOption → Text
option_id listing_option = codes "prt"
option_id threads_option = codes "threads"

-- these values are what was asked for so far
pub record Knows (given : List Given) (seen : Seen) : Type 0 where
  pub map_is : value_of (codes "map") given ≡ map_of seen.names
  pub out_is : value_of (codes "out") given ≡ out_of seen.names
  pub flags_are : (flag : FlagOption) → value_of (flag_id flag) given ≡ flag_text (seen.flags flag)
  pub listing_is : value_of (codes "prt") given ≡ seen.listing
  pub threads_is : value_of (codes "threads") given ≡ seen.threads

-- what the parser holds is what was asked for so far
pub record Holds (h : Held) (seen : Seen) : Type 0 where
  pub settles : settle_fault rules false h ≡ []
  pub given : List Given
  pub rows_are : (settled rules h).rows ≡ rows given
  pub knows : Knows given seen

abbrev pub idle_at : Held → ℕ → Walk
idle_at h position = record { held = h; waiting = idle; position = position; is_trailing = false; stopped = None }

abbrev pub due_at : Held → ℕ → Text → Walk
due_at h position id = record { held = h; waiting = option id; position = position; is_trailing = false; stopped = None }

-- the rows are these, and nothing is being read
abbrev pub resting : Held → List Row → Held
resting h r = record h { rows = r; pending = None }

-- the rows are these, and one value was read
abbrev pub reading : Held → List Row → Text → List Text → Held
reading h r id values = record h { rows = r; pending = Some (id, values) }

abbrev pub map_rule : Rule
map_rule = with_index 1 (filled (name_rule (codes "map")))

abbrev pub out_rule : Rule
out_rule = with_index 2 (filled (name_rule (codes "out")))

abbrev pub option_rule : ValuedOption → Rule
option_rule kind = with_index 3 (filled (value_rule (option_id kind)))

abbrev pub bare_rule : Text → Rule
bare_rule id = with_index 3 (filled (flag_rule id))

set_is : (a : Rule) (values : List Text) (r : List Row) (given : List Given) → r ≡ rows given → value_of a.id given ≡ None → values_fault a values ≡ []
    → set_fault false a values r ≡ []
set_is a values r given rows_are free pass = ap (set_fault false a values) rows_are ∙ set_passes a values (rows given) (not_given a.id given free) pass

-- ---- words that are options

pub flag_leads : (h : Held) (position : ℕ) (given : List Given) (flag : FlagOption) → settle_fault rules false h ≡ [] → (settled rules h).rows ≡ rows given → value_of (flag_id flag) given ≡ None
    → Leads compile_shape (idle_at h position) (flag_spelling flag) (idle_at (resting h (rows (given ++ (flag_id flag, codes "true") ∷ []))) position)
unfolding walked
flag_leads h position given fast_option settles rows_are free = record {
  turn = or_else-none _ [] (or_else-none (settle_fault rules false h) (set_fault false (bare_rule (codes "fast")) (codes "true" ∷ []) (settled rules h).rows) settles
      (set_is (bare_rule (codes "fast")) (codes "true" ∷ []) (settled rules h).rows given rows_are free refl)) refl;
  walks = ap (λ (r : List Row). idle_at (resting h r) position) (ap (used (bare_rule (codes "fast")) []) rows_are ∙ used_once (codes "fast") (codes "true") given free);
}
flag_leads h position given hulls_option settles rows_are free = record {
  turn = or_else-none _ [] (or_else-none (settle_fault rules false h) (set_fault false (bare_rule (codes "hulls")) (codes "true" ∷ []) (settled rules h).rows) settles
      (set_is (bare_rule (codes "hulls")) (codes "true" ∷ []) (settled rules h).rows given rows_are free refl)) refl;
  walks = ap (λ (r : List Row). idle_at (resting h r) position) (ap (used (bare_rule (codes "hulls")) []) rows_are ∙ used_once (codes "hulls") (codes "true") given free);
}
flag_leads h position given models_option settles rows_are free = record {
  turn = or_else-none _ [] (or_else-none (settle_fault rules false h) (set_fault false (bare_rule (codes "models")) (codes "true" ∷ []) (settled rules h).rows) settles
      (set_is (bare_rule (codes "models")) (codes "true" ∷ []) (settled rules h).rows given rows_are free refl)) refl;
  walks = ap (λ (r : List Row). idle_at (resting h r) position) (ap (used (bare_rule (codes "models")) []) rows_are ∙ used_once (codes "models") (codes "true") given free);
}
flag_leads h position given faces_option settles rows_are free = record {
  turn = or_else-none _ [] (or_else-none (settle_fault rules false h) (set_fault false (bare_rule (codes "faces")) (codes "true" ∷ []) (settled rules h).rows) settles
      (set_is (bare_rule (codes "faces")) (codes "true" ∷ []) (settled rules h).rows given rows_are free refl)) refl;
  walks = ap (λ (r : List Row). idle_at (resting h r) position) (ap (used (bare_rule (codes "faces")) []) rows_are ∙ used_once (codes "faces") (codes "true") given free);
}

pub within_leads : (h : Held) (position : ℕ) (given : List Given) (kind : ValuedOption) (text : Text) → settle_fault rules false h ≡ [] → (settled rules h).rows ≡ rows given → value_of (option_id kind) given ≡ None
    → Leads compile_shape (idle_at h position) (option_spelling kind ++ (61 ∷ text)) (idle_at (resting h (rows (given ++ (option_id kind, text) ∷ []))) position)
unfolding walked
within_leads h position given listing_option text settles rows_are free = record {
  turn = or_else-none _ [] (or_else-none (settle_fault rules false h) (set_fault false (option_rule listing_option) (text ∷ []) (settled rules h).rows) settles
      (set_is (option_rule listing_option) (text ∷ []) (settled rules h).rows given rows_are free refl)) refl;
  walks = ap (λ (r : List Row). idle_at (resting h r) position) (ap (used (option_rule listing_option) (text ∷ [])) rows_are ∙ used_once (codes "prt") text given free);
}
within_leads h position given threads_option text settles rows_are free = record {
  turn = or_else-none _ [] (or_else-none (settle_fault rules false h) (set_fault false (option_rule threads_option) (text ∷ []) (settled rules h).rows) settles
      (set_is (option_rule threads_option) (text ∷ []) (settled rules h).rows given rows_are free refl)) refl;
  walks = ap (λ (r : List Row). idle_at (resting h r) position) (ap (used (option_rule threads_option) (text ∷ [])) rows_are ∙ used_once (codes "threads") text given free);
}

pub alone_leads : (h : Held) (position : ℕ) (kind : ValuedOption) → settle_fault rules false h ≡ []
    → Leads compile_shape (idle_at h position) (option_spelling kind) (due_at (reading h (settled rules h).rows (option_id kind) []) position (option_id kind))
unfolding walked
alone_leads h position listing_option settles = record { turn = or_else-none (settle_fault rules false h) [] settles refl; walks = refl }
alone_leads h position threads_option settles = record { turn = or_else-none (settle_fault rules false h) [] settles refl; walks = refl }

-- ---- words without a hyphen in front

-- the value of an option
pub value_leads : (h : Held) (r : List Row) (position : ℕ) (kind : ValuedOption) (byte : ℕ) (bytes : Text) → byte ≢ 45
    → Leads compile_shape (due_at (reading h r (option_id kind) []) position (option_id kind)) (byte ∷ bytes) (idle_at (reading h r (option_id kind) ((byte ∷ bytes) ∷ [])) position)
value_leads h r position listing_option byte bytes other = plain_leads compile_shape (reading h r (codes "prt") []) (option (codes "prt")) position byte bytes _ other refl refl
value_leads h r position threads_option byte bytes other = plain_leads compile_shape (reading h r (codes "threads") []) (option (codes "threads")) position byte bytes _ other refl refl

pub map_leads : (h : Held) (byte : ℕ) (bytes : Text) → byte ≢ 45 → settle_fault rules false h ≡ []
    → Leads compile_shape (idle_at h 1) (byte ∷ bytes) (idle_at (reading h (settled rules h).rows (codes "map") ((byte ∷ bytes) ∷ [])) 2)
map_leads h byte bytes other settles = plain_leads compile_shape h idle 1 byte bytes _ other (positional_settles rules map_rule h refl ∙ settles)
    (ap (λ (held : Held). idle_at held 2) (positional_holds rules map_rule (byte ∷ bytes) h refl))

pub out_leads : (h : Held) (byte : ℕ) (bytes : Text) → byte ≢ 45 → settle_fault rules false h ≡ []
    → Leads compile_shape (idle_at h 2) (byte ∷ bytes) (idle_at (reading h (settled rules h).rows (codes "out") ((byte ∷ bytes) ∷ [])) 3)
out_leads h byte bytes other settles = plain_leads compile_shape h idle 2 byte bytes _ other (positional_settles rules out_rule h refl ∙ settles)
    (ap (λ (held : Held). idle_at held 3) (positional_holds rules out_rule (byte ∷ bytes) h refl))

-- ---- what is known with one word more

value_none : (kind : ValuedOption) (given : List Given) (seen : Seen) → Knows given seen → seen_value seen kind ≡ None → value_of (option_id kind) given ≡ None
value_none listing_option given seen knows free = knows.listing_is ∙ free
value_none threads_option given seen knows free = knows.threads_is ∙ free

-- the ids of other arguments are none of an option without a value
record IsOther (id : Text) : Type 0 where
  behind : (flag : FlagOption) → bytes_eq id (flag_id flag) ≡ false
  before : (flag : FlagOption) → bytes_eq (flag_id flag) id ≡ false

-- an id that differs from each
is_other : (id : Text) → bytes_eq id (codes "fast") ≡ false → bytes_eq id (codes "hulls") ≡ false → bytes_eq id (codes "models") ≡ false → bytes_eq id (codes "faces") ≡ false
    → bytes_eq (codes "fast") id ≡ false → bytes_eq (codes "hulls") id ≡ false → bytes_eq (codes "models") id ≡ false → bytes_eq (codes "faces") id ≡ false → IsOther id
is_other id no_fast no_hulls no_models no_faces fast_no hulls_no models_no faces_no = record { behind = behind_of; before = before_of }
  where
    behind_of : (flag : FlagOption) → bytes_eq id (flag_id flag) ≡ false
    behind_of fast_option = no_fast
    behind_of hulls_option = no_hulls
    behind_of models_option = no_models
    behind_of faces_option = no_faces

    before_of : (flag : FlagOption) → bytes_eq (flag_id flag) id ≡ false
    before_of fast_option = fast_no
    before_of hulls_option = hulls_no
    before_of models_option = models_no
    before_of faces_option = faces_no

map_other : IsOther (codes "map")
map_other = is_other (codes "map") refl refl refl refl refl refl refl refl

out_other : IsOther (codes "out")
out_other = is_other (codes "out") refl refl refl refl refl refl refl refl

option_other : (kind : ValuedOption) → IsOther (option_id kind)
option_other listing_option = is_other (codes "prt") refl refl refl refl refl refl refl refl
option_other threads_option = is_other (codes "threads") refl refl refl refl refl refl refl refl

-- a value of another argument is none of an option without a value
flags_past : (given : List Given) (seen : Seen) (id text : Text) → IsOther id → Knows given seen → (flag : FlagOption) → value_of (flag_id flag) (given ++ (id, text) ∷ []) ≡ flag_text (seen.flags flag)
flags_past given seen id text other knows flag = value_past (flag_id flag) given (id, text) (other.behind flag) ∙ knows.flags_are flag

knows_map : (given : List Given) (seen : Seen) (word : Text) → Knows given (record seen { names = neither }) → Knows (given ++ (codes "map", word) ∷ []) (record seen { names = one word })
knows_map given seen word knows = record {
  map_is = value_last (codes "map") given (codes "map", word) knows.map_is refl;
  out_is = value_past (codes "out") given (codes "map", word) refl ∙ knows.out_is;
  flags_are = flags_past given (record seen { names = neither }) (codes "map") word map_other knows;
  listing_is = value_past (codes "prt") given (codes "map", word) refl ∙ knows.listing_is;
  threads_is = value_past (codes "threads") given (codes "map", word) refl ∙ knows.threads_is;
}

knows_out : (given : List Given) (seen : Seen) (map_name word : Text) → Knows given (record seen { names = one map_name }) → Knows (given ++ (codes "out", word) ∷ []) (record seen { names = both map_name word })
knows_out given seen map_name word knows = record {
  map_is = value_past (codes "map") given (codes "out", word) refl ∙ knows.map_is;
  out_is = value_last (codes "out") given (codes "out", word) knows.out_is refl;
  flags_are = flags_past given (record seen { names = one map_name }) (codes "out") word out_other knows;
  listing_is = value_past (codes "prt") given (codes "out", word) refl ∙ knows.listing_is;
  threads_is = value_past (codes "threads") given (codes "out", word) refl ∙ knows.threads_is;
}

knows_flag : (given : List Given) (seen : Seen) (flag : FlagOption) → Knows given seen → seen.flags flag ≡ false → Knows (given ++ (flag_id flag, codes "true") ∷ []) (seen_with_flag seen flag)
knows_flag given seen flag knows free = record {
  map_is = value_past (codes "map") given (flag_id flag, codes "true") (map_other.before flag) ∙ knows.map_is;
  out_is = value_past (codes "out") given (flag_id flag, codes "true") (out_other.before flag) ∙ knows.out_is;
  flags_are = λ other. by other (bytes_eq (flag_id flag) (flag_id other)) refl;
  listing_is = value_past (codes "prt") given (flag_id flag, codes "true") ((option_other listing_option).before flag) ∙ knows.listing_is;
  threads_is = value_past (codes "threads") given (flag_id flag, codes "true") ((option_other threads_option).before flag) ∙ knows.threads_is;
}
  where
    by : (other : FlagOption) (b : Bool) → bytes_eq (flag_id flag) (flag_id other) ≡ b → value_of (flag_id other) (given ++ (flag_id flag, codes "true") ∷ []) ≡ flag_text (b || seen.flags other)
    by other true same =
        let ids : flag_id flag ≡ flag_id other = (bytes_eq-Decides (flag_id flag) (flag_id other)).0 same in
        let none = subst (λ (id : Text). value_of id given ≡ None) ids (knows.flags_are flag ∙ ap flag_text free) in
        value_last (flag_id other) given (flag_id flag, codes "true") none same
    by other false differ = value_past (flag_id other) given (flag_id flag, codes "true") differ ∙ knows.flags_are other

knows_value : (given : List Given) (seen : Seen) (kind : ValuedOption) (text : Text) → Knows given seen → seen_value seen kind ≡ None → Knows (given ++ (option_id kind, text) ∷ []) (seen_with seen kind text)
knows_value given seen listing_option text knows free = record {
  map_is = value_past (codes "map") given (codes "prt", text) refl ∙ knows.map_is;
  out_is = value_past (codes "out") given (codes "prt", text) refl ∙ knows.out_is;
  flags_are = flags_past given seen (codes "prt") text (option_other listing_option) knows;
  listing_is = value_last (codes "prt") given (codes "prt", text) (knows.listing_is ∙ free) refl;
  threads_is = value_past (codes "threads") given (codes "prt", text) refl ∙ knows.threads_is;
}
knows_value given seen threads_option text knows free = record {
  map_is = value_past (codes "map") given (codes "threads", text) refl ∙ knows.map_is;
  out_is = value_past (codes "out") given (codes "threads", text) refl ∙ knows.out_is;
  flags_are = flags_past given seen (codes "threads") text (option_other threads_option) knows;
  listing_is = value_past (codes "prt") given (codes "threads", text) refl ∙ knows.listing_is;
  threads_is = value_last (codes "threads") given (codes "threads", text) (knows.threads_is ∙ free) refl;
}

-- one word more, and what is held with it
pub record Goes (h : Held) (position : ℕ) (word : Text) (seen : Seen) (place : ℕ) : Type 0 where
  pub next : Held
  pub leads : Leads compile_shape (idle_at h position) word (idle_at next place)
  pub holds : Holds next seen

pub goes_flag : (h : Held) (position : ℕ) (seen : Seen) (flag : FlagOption) → Holds h seen → seen.flags flag ≡ false → Goes h position (flag_spelling flag) (seen_with_flag seen flag) position
goes_flag h position seen flag holds free = record {
  next = resting h (rows (holds.given ++ (flag_id flag, codes "true") ∷ []));
  leads = flag_leads h position holds.given flag holds.settles holds.rows_are (holds.knows.flags_are flag ∙ ap flag_text free);
  holds = record { settles = refl; given = holds.given ++ (flag_id flag, codes "true") ∷ []; rows_are = refl; knows = knows_flag holds.given seen flag holds.knows free };
}

pub goes_within : (h : Held) (position : ℕ) (seen : Seen) (kind : ValuedOption) (text : Text) → Holds h seen → seen_value seen kind ≡ None
    → Goes h position (option_spelling kind ++ (61 ∷ text)) (seen_with seen kind text) position
goes_within h position seen kind text holds free = record {
  next = resting h (rows (holds.given ++ (option_id kind, text) ∷ []));
  leads = within_leads h position holds.given kind text holds.settles holds.rows_are (value_none kind holds.given seen holds.knows free);
  holds = record { settles = refl; given = holds.given ++ (option_id kind, text) ∷ []; rows_are = refl; knows = knows_value holds.given seen kind text holds.knows free };
}

pub goes_map : (h : Held) (seen : Seen) (byte : ℕ) (bytes : Text) → byte ≢ 45 → Holds h (record seen { names = neither }) → Goes h 1 (byte ∷ bytes) (record seen { names = one (byte ∷ bytes) }) 2
goes_map h seen byte bytes other holds = record {
  next = reading h (settled rules h).rows (codes "map") ((byte ∷ bytes) ∷ []);
  leads = map_leads h byte bytes other holds.settles;
  holds = record {
    settles = set_is map_rule ((byte ∷ bytes) ∷ []) (settled rules h).rows holds.given holds.rows_are holds.knows.map_is refl;
    given = holds.given ++ (codes "map", byte ∷ bytes) ∷ [];
    rows_are = ap (used map_rule ((byte ∷ bytes) ∷ [])) holds.rows_are ∙ used_once (codes "map") (byte ∷ bytes) holds.given holds.knows.map_is;
    knows = knows_map holds.given seen (byte ∷ bytes) holds.knows;
  };
}

pub goes_out : (h : Held) (seen : Seen) (map_name : Text) (byte : ℕ) (bytes : Text) → byte ≢ 45 → Holds h (record seen { names = one map_name })
    → Goes h 2 (byte ∷ bytes) (record seen { names = both map_name (byte ∷ bytes) }) 3
goes_out h seen map_name byte bytes other holds = record {
  next = reading h (settled rules h).rows (codes "out") ((byte ∷ bytes) ∷ []);
  leads = out_leads h byte bytes other holds.settles;
  holds = record {
    settles = set_is out_rule ((byte ∷ bytes) ∷ []) (settled rules h).rows holds.given holds.rows_are holds.knows.out_is refl;
    given = holds.given ++ (codes "out", byte ∷ bytes) ∷ [];
    rows_are = ap (used out_rule ((byte ∷ bytes) ∷ [])) holds.rows_are ∙ used_once (codes "out") (byte ∷ bytes) holds.given holds.knows.out_is;
    knows = knows_out holds.given seen map_name (byte ∷ bytes) holds.knows;
  };
}

-- the value that was due is read
abbrev pub with_value_read : Held → ValuedOption → Text → Held
with_value_read h kind text = reading h (settled rules h).rows (option_id kind) (text ∷ [])

pub holds_value : (h : Held) (seen : Seen) (kind : ValuedOption) (text : Text) → Holds h seen → seen_value seen kind ≡ None → Holds (with_value_read h kind text) (seen_with seen kind text)
holds_value h seen listing_option text holds free =
    let none = value_none listing_option holds.given seen holds.knows free in
    record {
      settles = set_is (option_rule listing_option) (text ∷ []) (settled rules h).rows holds.given holds.rows_are none refl;
      given = holds.given ++ (codes "prt", text) ∷ [];
      rows_are = ap (used (option_rule listing_option) (text ∷ [])) holds.rows_are ∙ used_once (codes "prt") text holds.given none;
      knows = knows_value holds.given seen listing_option text holds.knows free;
    }
holds_value h seen threads_option text holds free =
    let none = value_none threads_option holds.given seen holds.knows free in
    record {
      settles = set_is (option_rule threads_option) (text ∷ []) (settled rules h).rows holds.given holds.rows_are none refl;
      given = holds.given ++ (codes "threads", text) ∷ [];
      rows_are = ap (used (option_rule threads_option) (text ∷ [])) holds.rows_are ∙ used_once (codes "threads") text holds.given none;
      knows = knows_value holds.given seen threads_option text holds.knows free;
    }

-- ---- what was not asked for before

none_of : (o : Option Text) → is_some o ≡ false → o ≡ None
none_of None free = refl
none_of (Some text) free = absurd cc

-- its row was not there, so its value was not
not_seen : (id : Text) (r : List Row) (given : List Given) → r ≡ rows given → has_row id r ≡ false → value_of id given ≡ None
not_seen id r given rows_are free = none_of (value_of id given) (sym (has_row_is id given) ∙ ap (has_row id) (sym rows_are) ∙ free)

-- an option without a value that could be used
flag_right : (h : Held) (flag : FlagOption) → other_fault compile_shape None (flag_spelling flag) h ≡ [] → set_fault false (bare_rule (flag_id flag)) (codes "true" ∷ []) (settled rules h).rows ≡ []
flag_right h fast_option right = second_none (settle_fault rules false h) (set_fault false (bare_rule (codes "fast")) (codes "true" ∷ []) (settled rules h).rows) right
flag_right h hulls_option right = second_none (settle_fault rules false h) (set_fault false (bare_rule (codes "hulls")) (codes "true" ∷ []) (settled rules h).rows) right
flag_right h models_option right = second_none (settle_fault rules false h) (set_fault false (bare_rule (codes "models")) (codes "true" ∷ []) (settled rules h).rows) right
flag_right h faces_option right = second_none (settle_fault rules false h) (set_fault false (bare_rule (codes "faces")) (codes "true" ∷ []) (settled rules h).rows) right

pub flag_free : (h : Held) (seen : Seen) (flag : FlagOption) → Holds h seen → other_fault compile_shape None (flag_spelling flag) h ≡ [] → seen.flags flag ≡ false
flag_free h seen flag holds right = free (seen.flags flag) (sym (holds.knows.flags_are flag) ∙ not_seen (flag_id flag) (settled rules h).rows holds.given holds.rows_are
    (set_free (bare_rule (flag_id flag)) (codes "true" ∷ []) (settled rules h).rows (flag_right h flag right)))
  where
    free : (b : Bool) → flag_text b ≡ None → b ≡ false
    free true some = absurd cc
    free false none = refl

-- a value that could be used
value_free : (h : Held) (seen : Seen) (kind : ValuedOption) (text : Text) → Holds h seen → set_fault false (option_rule kind) (text ∷ []) (settled rules h).rows ≡ [] → seen_value seen kind ≡ None
value_free h seen listing_option text holds right =
    sym holds.knows.listing_is ∙ not_seen (codes "prt") (settled rules h).rows holds.given holds.rows_are (set_free (option_rule listing_option) (text ∷ []) (settled rules h).rows right)
value_free h seen threads_option text holds right =
    sym holds.knows.threads_is ∙ not_seen (codes "threads") (settled rules h).rows holds.given holds.rows_are (set_free (option_rule threads_option) (text ∷ []) (settled rules h).rows right)

pub within_free : (h : Held) (seen : Seen) (kind : ValuedOption) (text : Text) → Holds h seen → other_fault compile_shape None (option_spelling kind ++ (61 ∷ text)) h ≡ [] → seen_value seen kind ≡ None
within_free h seen listing_option text holds right = value_free h seen listing_option text holds (second_none (settle_fault rules false h) (set_fault false (option_rule listing_option) (text ∷ []) (settled rules h).rows) right)
within_free h seen threads_option text holds right = value_free h seen threads_option text holds (second_none (settle_fault rules false h) (set_fault false (option_rule threads_option) (text ∷ []) (settled rules h).rows) right)

pub read_free : (h : Held) (seen : Seen) (kind : ValuedOption) (text : Text) → Holds h seen → settle_fault rules false (with_value_read h kind text) ≡ [] → seen_value seen kind ≡ None
read_free h seen listing_option text holds right = value_free h seen listing_option text holds right
read_free h seen threads_option text holds right = value_free h seen threads_option text holds right

-- ---- what has to settle

-- an option in front settles what is held
pub option_settles : (h : Held) (word : Text) → IsCompileWord word → (IsFileName word → ⊥) → other_fault compile_shape None word h ≡ [] → settle_fault rules false h ≡ []
option_settles h word (plain is) other right = absurd (other is)
option_settles h word (bare fast_option is) other right =
    first_none (settle_fault rules false h) _ (ap (λ (w : Text). other_fault compile_shape None w h) (sym is) ∙ right)
option_settles h word (bare hulls_option is) other right =
    first_none (settle_fault rules false h) _ (ap (λ (w : Text). other_fault compile_shape None w h) (sym is) ∙ right)
option_settles h word (bare models_option is) other right =
    first_none (settle_fault rules false h) _ (ap (λ (w : Text). other_fault compile_shape None w h) (sym is) ∙ right)
option_settles h word (bare faces_option is) other right =
    first_none (settle_fault rules false h) _ (ap (λ (w : Text). other_fault compile_shape None w h) (sym is) ∙ right)
option_settles h word (alone listing_option is) other right = ap (λ (w : Text). other_fault compile_shape None w h) (sym is) ∙ right
option_settles h word (alone threads_option is) other right = ap (λ (w : Text). other_fault compile_shape None w h) (sym is) ∙ right
option_settles h word (within listing_option text is some) other right =
    first_none (settle_fault rules false h) _ (ap (λ (w : Text). other_fault compile_shape None w h) (sym is) ∙ right)
option_settles h word (within threads_option text is some) other right =
    first_none (settle_fault rules false h) _ (ap (λ (w : Text). other_fault compile_shape None w h) (sym is) ∙ right)
