-- What the machine makes of a text is what the text means, and nothing else is.
use Rattle.std.proofs.Common.{◌≡◌, ◌≢◌, ℕ, ◌+◌, ◌<◌, ◌≤◌, Bool, true, false, ◌==◌, nat_lt, List, [], ◌∷◌, length, map, Option, Some, None, Result, Ok, Err, refl, sym, ap, subst, ◌∙◌, arith, if◌then◌else◌}
use Rattle.std.proofs.lemmas.Bool.{ltb-true, ltb-false, eqb-true, both_ways, eq-eqb}
use Rattle.std.proofs.lemmas.List.{nil_from_length}
use Rattle.qm_tokens.specs.Lexeme.{Lexeme}
use Rattle.qm_tokens.specs.Lexing.{Lexing, IsLexingOf}
use Rattle.qm_tokens.specs.inner.Modes.{between, read}
use Rattle.qm_mapfile.specs.declared.entity.Entity.{Entity}
use Rattle.qm_mapfile.specs.declared.entity.MapFile.{MapFile}
use Rattle.qm_grammar.specs.declared.context.Context.TheVariants as context
use Rattle.qm_grammar.specs.declared.refusal.Refusal.{Refusal}
use Rattle.qm_grammar.specs.declared.fault.MapFault.{MapFault}
use Rattle.qm_grammar.specs.declared.fault.MapFault.TheVariants as fault
use Rattle.qm_grammar.specs.Symbol.{Symbol, symbol_of}
use Rattle.qm_grammar.specs.Grammar.{SpellsEntities, none, more, SpellsMap}
use Rattle.qm_grammar.specs.Prefix.{Prefix, between_entities, IsPrefix, outside_prefix, entity_prefix, key_prefix, brush_prefix, face_prefix, IsOutside}
use Rattle.qm_grammar.specs.Faults.{text_limit, line_at, last_line, end_of, fault_of, Rank, of_length, of_end, rank_of, ComesNoLater, IsRefused, Stands, too_long, refused, unclosed, end_inside, no_entity, IsFirstFault}
use Rattle.qm_grammar.specs.Meaning.{IsMapText, IsFaultText, Means}
use Rattle.qm_grammar.specs.inner.Machine.{steps, closed_by_end, ended, meaning_of}
use Rattle.qm_grammar.proofs.Runs.{same_ok, steps_runs}
use Rattle.qm_grammar.proofs.PrefixReads.{runs_prefix}
use Rattle.qm_grammar.proofs.Lexings.{read_lexing, one_lexing, ends_within}
use Rattle.qm_grammar.proofs.FirstFaults.{steps_refused, prefix_steps, one_refused, none_refused, long_first, token_first, end_first, one_first_fault}

-- no token spells no entity
no_symbols : {symbols : List Symbol} {entities : List Entity} → SpellsEntities symbols entities → entities ≡ [] → symbols ≡ []
no_symbols none is = refl
no_symbols (more spells rest) is = absurd cc

no_lexemes : (lexemes : List Lexeme) → map symbol_of lexemes ≡ [] → lexemes ≡ []
no_lexemes [] is = refl
no_lexemes (lexeme ∷ lexemes) is = absurd cc

-- ---- what is computed is meant

module _ (text : List ℕ) (lexing : Lexing) (is : IsLexingOf text lexing) where
  fault_text : (at : ℕ) (rank : Rank) (found : MapFault) → Stands text lexing at rank found → ((other_at : ℕ) (other_rank : Rank) (other : MapFault) → Stands text lexing other_at other_rank other → ComesNoLater at rank other_at other_rank) → IsFaultText text found
  fault_text at rank found stands first = record { lexing = lexing; is_lexing = is; first = record { at = at; rank = rank; stands = stands; first = first } }

  -- a refused token
  refused_means : (token : Lexeme) (reason : Refusal) → IsRefused lexing.lexemes token reason → (t : Bool) → nat_lt text_limit (end_of token) ≡ t → IsFaultText text (if t then fault.TextTooLong (line_at text text_limit) else fault_of reason token.line)
  refused_means token reason refuses true late =
      let past : text_limit < end_of token = ltb-true text_limit (end_of token) late in
      let within = ends_within text lexing refuses.before refuses.after token is refuses.split in
      let long : text_limit < length text = omega arith in
      fault_text (text_limit + 1) of_length (fault.TextTooLong (line_at text text_limit)) (too_long long)
      (long_first text lexing long (λ other why again.
      let same = one_refused lexing.lexemes token other reason why refuses again in
      subst (λ (t : Lexeme). text_limit < end_of t) same.0 past))
  refused_means token reason refuses false early =
      fault_text (end_of token) (rank_of reason) (fault_of reason token.line) (refused refuses)
      (token_first text lexing is token reason refuses (ltb-false text_limit (end_of token) early))

  module _ (prefix : Prefix) (all_read : steps (between_entities []) lexing.lexemes ≡ Ok prefix) where
    end_fault : length text ≤ text_limit → (found : MapFault) → Stands text lexing (length text) of_end found → IsFaultText text found
    end_fault short found stands = fault_text (length text) of_end found stands (end_first text lexing short prefix all_read)

    outside_means : length text ≤ text_limit → lexing.unclosed_line ≡ None → (es : List Entity) → IsOutside (map symbol_of lexing.lexemes) es → (t : Bool) → (length es == 0) ≡ t → Means text (if t then Err (fault.NoEntity (last_line text)) else Ok (record { entities = es }))
    outside_means short closed es spelled true empty =
        let none_spelled : es ≡ [] = nil_from_length es (eqb-true (length es) 0 empty) in
        end_fault short (fault.NoEntity (last_line text))
        (no_entity closed (no_lexemes lexing.lexemes (no_symbols spelled.spelled none_spelled)))
    outside_means short closed es spelled false some = record {
      short = short;
      lexing = lexing;
      is_lexing = is;
      closed = closed;
      spelled = record {
        entities = spelled.spelled;
        some = λ empty. both_ways (length es == 0) some (eq-eqb (length es) 0 (ap length empty));
        origins = spelled.origins;
      };
    }

    inside_means : length text ≤ text_limit → lexing.unclosed_line ≡ None → IsPrefix (map symbol_of lexing.lexemes) prefix → prefix.context ≢ context.Outside → IsFaultText text (fault.EndInside (last_line text))
    inside_means short closed is_prefix inside =
        end_fault short (fault.EndInside (last_line text)) (end_inside closed (record { prefix = prefix; is_prefix = is_prefix; inside = inside }))

  closed_means : length text ≤ text_limit → lexing.unclosed_line ≡ None → (prefix : Prefix) → steps (between_entities []) lexing.lexemes ≡ Ok prefix → IsPrefix (map symbol_of lexing.lexemes) prefix → Means text (closed_by_end text None prefix)
  closed_means short closed prefix all_read (outside_prefix {entities = es} spelled) = outside_means (between_entities es) all_read short closed es spelled (length es == 0) refl
  closed_means short closed prefix all_read (entity_prefix spelled) = inside_means prefix all_read short closed (entity_prefix spelled) (λ never. absurd cc)
  closed_means short closed prefix all_read (key_prefix spelled) = inside_means prefix all_read short closed (key_prefix spelled) (λ never. absurd cc)
  closed_means short closed prefix all_read (brush_prefix spelled) = inside_means prefix all_read short closed (brush_prefix spelled) (λ never. absurd cc)
  closed_means short closed prefix all_read (face_prefix spelled) = inside_means prefix all_read short closed (face_prefix spelled) (λ never. absurd cc)

  quote_means : length text ≤ text_limit → (quote : Option ℕ) → lexing.unclosed_line ≡ quote → (prefix : Prefix) → steps (between_entities []) lexing.lexemes ≡ Ok prefix → Means text (closed_by_end text quote prefix)
  quote_means short (Some line) opened prefix all_read = end_fault prefix all_read short (fault.UnclosedQuote line) (unclosed opened)
  quote_means short None closed prefix all_read =
      closed_means short closed prefix all_read (runs_prefix (map symbol_of lexing.lexemes) prefix (steps_runs (between_entities []) prefix lexing.lexemes all_read))

  read_means : (prefix : Prefix) → steps (between_entities []) lexing.lexemes ≡ Ok prefix → (t : Bool) → nat_lt text_limit (length text) ≡ t → Means text (if t then Err (fault.TextTooLong (line_at text text_limit)) else closed_by_end text lexing.unclosed_line prefix)
  read_means prefix all_read true long =
      fault_text (text_limit + 1) of_length (fault.TextTooLong (line_at text text_limit)) (too_long (ltb-true text_limit (length text) long))
      (long_first text lexing (ltb-true text_limit (length text) long) (λ token reason refuses. absurd (none_refused lexing.lexemes prefix token reason all_read refuses)))
  read_means prefix all_read false short = quote_means (ltb-false text_limit (length text) short) lexing.unclosed_line refl prefix all_read

  ended_means : (result : Result Prefix (Refusal × Lexeme)) → steps (between_entities []) lexing.lexemes ≡ result → Means text (ended text lexing.unclosed_line result)
  ended_means (Ok prefix) all_read = read_means prefix all_read (nat_lt text_limit (length text)) refl
  ended_means (Err (reason, token)) first =
      refused_means token reason (steps_refused lexing.lexemes token reason first) (nat_lt text_limit (end_of token)) refl

-- what the machine makes of a text is what it means
pub means_meaning : (text : List ℕ) → Means text (meaning_of text)
unfolding meaning_of
means_meaning text =
    let lexing = read between 0 1 text in
    ended_means text lexing (read_lexing text) (steps (between_entities []) lexing.lexemes) refl

-- ---- nothing else is meant

-- the tokens of a map lead to its entities
map_steps : (lexemes : List Lexeme) (one : MapFile) → SpellsMap (map symbol_of lexemes) one → steps (between_entities []) lexemes ≡ Ok (between_entities one.entities)
map_steps lexemes one spells =
    prefix_steps lexemes (between_entities one.entities) (outside_prefix (record { spelled = spells.entities; origins = spells.origins }))

-- a text of a map has no fault
map_no_fault : (text : List ℕ) (lexing : Lexing) (one : MapFile) → length text ≤ text_limit → lexing.unclosed_line ≡ None → SpellsMap (map symbol_of lexing.lexemes) one → (at : ℕ) (rank : Rank) (found : MapFault) → Stands text lexing at rank found → ⊥
map_no_fault text lexing one short closed spells at rank found (too_long long) = absurd (omega arith)
map_no_fault text lexing one short closed spells at rank found (refused {token = token} {reason = reason} is) =
    none_refused lexing.lexemes (between_entities one.entities) token reason (map_steps lexing.lexemes one spells) is
map_no_fault text lexing one short closed spells at rank found (unclosed opened) = absurd cc
map_no_fault text lexing one short closed spells at rank found (end_inside closed' ends) =
    let read = prefix_steps lexing.lexemes ends.prefix ends.is_prefix in
    let same : ends.prefix ≡ between_entities one.entities = same_ok (steps (between_entities []) lexing.lexemes) ends.prefix (between_entities one.entities) read (map_steps lexing.lexemes one spells) in
    ends.inside (ap (λ (f : Prefix). f.context) same)
map_no_fault text lexing one short closed spells at rank found (no_entity closed' empty) =
    let read = map_steps lexing.lexemes one spells in
    let nothing : steps (between_entities []) lexing.lexemes ≡ Ok (between_entities []) = ap (steps (between_entities [])) empty in
    let same : between_entities one.entities ≡ between_entities [] = same_ok (steps (between_entities []) lexing.lexemes) (between_entities one.entities) (between_entities []) read nothing in
    spells.some (ap (λ (f : Prefix). f.entities) same)

same_lexing : (text : List ℕ) (one other : Lexing) → IsLexingOf text one → IsLexingOf text other → one ≡ other
same_lexing text one other is again = one_lexing text one is ∙ sym (one_lexing text other again)

not_both_meant : (text : List ℕ) (one : MapFile) (found : MapFault) → IsMapText text one → IsFaultText text found → ⊥
not_both_meant text one found is fails =
    let first : IsFirstFault text is.lexing found = subst (λ (l : Lexing). IsFirstFault text l found) (same_lexing text fails.lexing is.lexing fails.is_lexing is.is_lexing) fails.first in
    map_no_fault text is.lexing one is.short is.closed is.spelled first.at first.rank found first.stands

one_map : (text : List ℕ) (one other : MapFile) → IsMapText text one → IsMapText text other → one ≡ other
one_map text one other is again =
    let lexings = same_lexing text again.lexing is.lexing again.is_lexing is.is_lexing in
    let second : SpellsMap (map symbol_of is.lexing.lexemes) other = subst (λ (l : Lexing). SpellsMap (map symbol_of l.lexemes) other) lexings again.spelled in
    let same : between_entities one.entities ≡ between_entities other.entities =
    same_ok (steps (between_entities []) is.lexing.lexemes) (between_entities one.entities) (between_entities other.entities) (map_steps is.lexing.lexemes one is.spelled) (map_steps is.lexing.lexemes other second) in
    ap (λ (f : Prefix). record { entities = f.entities }) same

one_fault : (text : List ℕ) (one other : MapFault) → IsFaultText text one → IsFaultText text other → one ≡ other
one_fault text one other is again =
    let lexings = same_lexing text again.lexing is.lexing again.is_lexing is.is_lexing in
    one_first_fault text is.lexing one other is.first (subst (λ (l : Lexing). IsFirstFault text l other) lexings again.first)

-- a text has one meaning at most
pub one_meaning : (text : List ℕ) (one other : Result MapFile MapFault) → Means text one → Means text other → one ≡ other
one_meaning text (Ok one) (Ok other) is again = ap (λ (m : MapFile). Ok m) (one_map text one other is again)
one_meaning text (Ok one) (Err found) is fails = absurd (not_both_meant text one found is fails)
one_meaning text (Err found) (Ok one) fails is = absurd (not_both_meant text one found is fails)
one_meaning text (Err one) (Err other) is again = ap (λ (f : MapFault). Err f) (one_fault text one other is again)

-- a text means nothing but what the machine makes of it
pub meaning_only : (text : List ℕ) (other : Result MapFile MapFault) → Means text other → other ≡ meaning_of text
meaning_only text other is = one_meaning text other (meaning_of text) is (means_meaning text)
