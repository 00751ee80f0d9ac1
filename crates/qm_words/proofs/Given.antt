-- The rows of arguments that were given, each once, with one value.
use Rattle.std.proofs.Common.{◌≡◌, ◌∙◌, ◌||◌, Bool, cond, true, false, refl, sym, ap, List, [], ◌∷◌, ◌++◌, map, Option, Some, None, is_some, true≢false}
use Rattle.std.specs.Prelude.{find, slice_get, option_and_then}
use Rattle.std.specs.Option.{option_map_or}
use Rattle.std.specs.Str.{bytes_eq}
use Rattle.clap.specs.Facts.{explicit_source}
use Rattle.clap.specs.Walk.{Row, Text, at_row, has_row, first_of, one_of, row_text, more_values, with_values, without}
use Rattle.clap.specs.Takes.{is_given}
use Rattle.clap.specs.declared.parser.matches.ValueSource.TheVariants.{CommandLine}
use Rattle.clap.specs.declared.builder.value_parser.Reading.TheVariants.{AsWritten}

-- an argument and its value
abbrev pub Given : Type 0
Given = Text × Text

abbrev pub row : Given → Row
row p = record { id = p.0; values = p.1 ∷ []; count = None; source = Some CommandLine; reading = AsWritten }

abbrev pub rows : List Given → List Row
rows given = map row given

-- the value of an argument
abbrev pub value_of : Text → List Given → Option Text
value_of id [] = None
value_of id (p ∷ given) = cond (bytes_eq p.0 id) (Some p.1) (value_of id given)

abbrev pub named : Text → Row → Bool
named id r = bytes_eq r.id id

pub has_row_is : (id : Text) (given : List Given) → has_row id (rows given) ≡ is_some (value_of id given)
has_row_is id [] = refl
has_row_is id (p ∷ given) =
    elim (bytes_eq p.0 id) as (λ b. (b || has_row id (rows given)) ≡ is_some (cond b (Some p.1) (value_of id given))) [ true ↦ refl | false ↦ has_row_is id given ]

pub first_is : (id : Text) (given : List Given) → first_of id (rows given) ≡ value_of id given
first_is id [] = refl
first_is id (p ∷ given) =
    elim (bytes_eq p.0 id) as (λ b. option_and_then (λ (r : Row). slice_get r.values 0) (cond b (Some (row p)) (find (named id) (rows given))) ≡ cond b (Some p.1) (value_of id given)) [ true ↦ refl | false ↦ first_is id given ]

pub one_is : (id : Text) (given : List Given) → one_of id (rows given) ≡ value_of id given
one_is id [] = refl
one_is id (p ∷ given) =
    elim (bytes_eq p.0 id) as (λ b. option_and_then row_text (cond b (Some (row p)) (find (named id) (rows given))) ≡ cond b (Some p.1) (value_of id given)) [ true ↦ refl | false ↦ one_is id given ]

pub given_is : (id : Text) (given : List Given) → is_given id (rows given) ≡ is_some (value_of id given)
given_is id [] = refl
given_is id (p ∷ given) =
    elim (bytes_eq p.0 id) as (λ b. option_map_or (λ (r : Row). explicit_source r.source) (cond b (Some (row p)) (find (named id) (rows given))) false ≡ is_some (cond b (Some p.1) (value_of id given))) [ true ↦ refl | false ↦ given_is id given ]

has_row_found : (id : Text) (all : List Row) → has_row id all ≡ is_some (find (named id) all)
has_row_found id [] = refl
has_row_found id (r ∷ all) =
    elim (bytes_eq r.id id) as (λ b. (b || has_row id all) ≡ is_some (cond b (Some r) (find (named id) all))) [ true ↦ refl | false ↦ has_row_found id all ]

-- where the same row is found, an argument has a row where it was given
pub row_kept : (id : Text) (all : List Row) (given : List Given) → find (named id) all ≡ find (named id) (rows given) → has_row id all ≡ is_some (value_of id given)
row_kept id all given same = has_row_found id all ∙ ap (λ (o : Option Row). is_some o) same ∙ sym (has_row_found id (rows given)) ∙ has_row_is id given

-- a row of another argument behind the rest
pub find_past : (id : Text) (all : List Row) (last : Row) → bytes_eq last.id id ≡ false → find (named id) (all ++ last ∷ []) ≡ find (named id) all
find_past id [] last other = ap (λ (b : Bool). cond b (Some last) None) other
find_past id (r ∷ all) last other = ap (λ (o : Option Row). cond (bytes_eq r.id id) (Some r) o) (find_past id all last other)

-- the first row of an argument behind the rest
pub find_last : (id : Text) (all : List Row) (last : Row) → has_row id all ≡ false → bytes_eq last.id id ≡ true → find (named id) (all ++ last ∷ []) ≡ Some last
find_last id [] last none is = ap (λ (b : Bool). cond b (Some last) None) is
find_last id (r ∷ all) last none is =
    let by : (b : Bool) → (b || has_row id all) ≡ false → cond b (Some r) (find (named id) (all ++ last ∷ [])) ≡ Some last = λ v. elim v as (λ b. (b || has_row id all) ≡ false → cond b (Some r) (find (named id) (all ++ last ∷ [])) ≡ Some last) [ true ↦ λ h. absurd (true≢false h) | false ↦ λ h. find_last id all last h is ] in
    by (bytes_eq r.id id) none

-- ---- one more

pub value_past : (id : Text) (given : List Given) (p : Given) → bytes_eq p.0 id ≡ false → value_of id (given ++ p ∷ []) ≡ value_of id given
value_past id [] p other = ap (λ (b : Bool). cond b (Some p.1) None) other
value_past id (q ∷ given) p other = ap (λ (o : Option Text). cond (bytes_eq q.0 id) (Some q.1) o) (value_past id given p other)

pub value_last : (id : Text) (given : List Given) (p : Given) → value_of id given ≡ None → bytes_eq p.0 id ≡ true → value_of id (given ++ p ∷ []) ≡ Some p.1
value_last id [] p none is = ap (λ (b : Bool). cond b (Some p.1) None) is
value_last id (q ∷ given) p none is =
    let by : (b : Bool) → cond b (Some q.1) (value_of id given) ≡ None → cond b (Some q.1) (value_of id (given ++ p ∷ [])) ≡ Some p.1 = λ v. elim v as (λ b. cond b (Some q.1) (value_of id given) ≡ None → cond b (Some q.1) (value_of id (given ++ p ∷ [])) ≡ Some p.1) [ true ↦ λ h. absurd cc | false ↦ λ h. value_last id given p h is ] in
    by (bytes_eq q.0 id) none

rows_more : (given : List Given) (p : Given) → rows (given ++ p ∷ []) ≡ rows given ++ row p ∷ []
rows_more [] p = refl
rows_more (q ∷ given) p = ap (λ (rest : List Row). row q ∷ rest) (rows_more given p)

pub at_end : (id : Text) (change : Row → List Row) (missing : List Row) (all : List Row) → has_row id all ≡ false → at_row id change missing all ≡ all ++ missing
at_end id change missing [] none = refl
at_end id change missing (r ∷ all) none =
    let by : (b : Bool) → (b || has_row id all) ≡ false → cond b (change r ++ all) (r ∷ at_row id change missing all) ≡ r ∷ (all ++ missing) = λ v. elim v as (λ b. (b || has_row id all) ≡ false → cond b (change r ++ all) (r ∷ at_row id change missing all) ≡ r ∷ (all ++ missing)) [ true ↦ λ h. absurd (true≢false h) | false ↦ λ h. ap (λ (rest : List Row). r ∷ rest) (at_end id change missing all h) ] in
    by (bytes_eq r.id id) none

append_none : (all : List Row) → all ++ [] ≡ all
append_none [] = refl
append_none (r ∷ all) = ap (λ (rest : List Row). r ∷ rest) (append_none all)

pub not_given : (id : Text) (given : List Given) → value_of id given ≡ None → has_row id (rows given) ≡ false
not_given id given none = has_row_is id given ∙ ap (λ (o : Option Text). is_some o) none

-- an argument that was not given is used
pub used_once : (id value : Text) (given : List Given) → value_of id given ≡ None
    → with_values id AsWritten CommandLine (value ∷ []) (without id (rows given)) ≡ rows (given ++ (id, value) ∷ [])
used_once id value given none =
    let free = not_given id given none in
    ap (with_values id AsWritten CommandLine (value ∷ [])) (at_end id (λ _. []) [] (rows given) free ∙ append_none (rows given))
    ∙ at_end id (more_values CommandLine (value ∷ [])) (row (id, value) ∷ []) (rows given) free ∙ sym (rows_more given (id, value))
