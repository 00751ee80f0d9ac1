-- Which tokens of a text are refused, and when a fault that stands is the first.
use Rattle.std.proofs.Common.{◌≡◌, ℕ, ◌+◌, ◌<◌, ◌≤◌, List, [], length, map, Ok, Err, inl, inr, ⊎_elim, refl, ap, ap₂, arith, le_of_eq}
use Rattle.std.proofs.lemmas.Bool.{cases_lt}
use Rattle.qm_tokens.specs.Lexeme.{Lexeme}
use Rattle.qm_tokens.specs.Lexing.{Lexing, IsLexingOf}
use Rattle.qm_grammar.specs.declared.refusal.Refusal.{Refusal}
use Rattle.qm_grammar.specs.declared.refusal.Refusal.TheVariants as refusal
use Rattle.qm_grammar.specs.declared.fault.MapFault.{MapFault}
use Rattle.qm_grammar.specs.declared.fault.MapFault.TheVariants as fault
use Rattle.qm_grammar.specs.Symbol.{symbol_of}
use Rattle.qm_grammar.specs.Prefix.{Prefix, between_entities, IsPrefix}
use Rattle.qm_grammar.specs.Faults.{text_limit, end_of, fault_of, Rank, of_length, of_end, rank_number, rank_of, IsRefused, EndsInside, Stands, too_long, refused, unclosed, end_inside, no_entity, ComesNoLater, IsFirstFault}
use Rattle.qm_grammar.specs.inner.Machine.{steps, runs}
use Rattle.qm_grammar.proofs.Runs.{not_both, same_ok, same_err, IsFirstRefused, steps_first, first_steps, runs_steps}
use Rattle.qm_grammar.proofs.PrefixRuns.{prefix_runs}
use Rattle.qm_grammar.proofs.PrefixReads.{runs_prefix}
use Rattle.qm_grammar.proofs.Refused.{step_refused}
use Rattle.qm_grammar.proofs.Refusing.{refused_step}
use Rattle.qm_grammar.proofs.Lexings.{ends_within}

-- ---- the one refused token

pub refused_steps : (lexemes : List Lexeme) (token : Lexeme) (reason : Refusal) → IsRefused lexemes token reason → steps (between_entities []) lexemes ≡ Err (reason, token)
refused_steps lexemes token reason is =
    first_steps (between_entities []) lexemes reason token (record {
      before = is.before;
      after = is.after;
      split = is.split;
      mid = is.prefix;
      read = prefix_runs (map symbol_of is.before) is.prefix is.is_prefix;
      refused = refused_step is.prefix (symbol_of token) reason is.refuses;
    })

pub steps_refused : (lexemes : List Lexeme) (token : Lexeme) (reason : Refusal) → steps (between_entities []) lexemes ≡ Err (reason, token) → IsRefused lexemes token reason
steps_refused lexemes token reason read =
    let first : IsFirstRefused (between_entities []) lexemes reason token = steps_first (between_entities []) lexemes reason token read in
    record {
      before = first.before;
      after = first.after;
      split = first.split;
      prefix = first.mid;
      is_prefix = runs_prefix (map symbol_of first.before) first.mid first.read;
      refuses = step_refused first.mid (symbol_of token) reason first.refused;
    }

-- at most one token of a text is refused, and for one reason
pub one_refused : (lexemes : List Lexeme) (token other : Lexeme) (reason why : Refusal) → IsRefused lexemes token reason → IsRefused lexemes other why → (token ≡ other) × (reason ≡ why)
one_refused lexemes token other reason why first second =
    let both : (reason, token) ≡ (why, other) = same_err (steps (between_entities []) lexemes) (reason, token) (why, other) (refused_steps lexemes token reason first) (refused_steps lexemes other why second) in
    (ap (λ (p : Refusal × Lexeme). p.1) both, ap (λ (p : Refusal × Lexeme). p.0) both)

-- lexemes that are a prefix are read, so none of them is refused
pub prefix_steps : (lexemes : List Lexeme) (prefix : Prefix) → IsPrefix (map symbol_of lexemes) prefix → steps (between_entities []) lexemes ≡ Ok prefix
prefix_steps lexemes prefix is = runs_steps (between_entities []) prefix lexemes (prefix_runs (map symbol_of lexemes) prefix is)

pub none_refused : (lexemes : List Lexeme) (prefix : Prefix) (token : Lexeme) (reason : Refusal) → steps (between_entities []) lexemes ≡ Ok prefix → IsRefused lexemes token reason → ⊥
none_refused lexemes prefix token reason read is =
    not_both (steps (between_entities []) lexemes) prefix (reason, token) read (refused_steps lexemes token reason is)

-- ---- the order of faults

comes : (at : ℕ) (rank : Rank) (other_at : ℕ) (other_rank : Rank) → at ≤ other_at → rank_number rank ≤ rank_number other_rank → ComesNoLater at rank other_at other_rank
comes at rank other_at other_rank earlier before =
    ⊎_elim (λ less. inl less) (λ same. inr (omega arith, before)) (cases_lt at other_at)

pub rank_within : (reason : Refusal) → (0 < rank_number (rank_of reason)) × (rank_number (rank_of reason) < 3)
rank_within refusal.Unexpected = (omega arith, omega arith)
rank_within refusal.BadNumber = (omega arith, omega arith)
rank_within refusal.Fraction = (omega arith, omega arith)
rank_within refusal.CoordinateRange = (omega arith, omega arith)
rank_within refusal.NoNormal = (omega arith, omega arith)
rank_within refusal.PlaneTooFine = (omega arith, omega arith)
rank_within refusal.NoFaces = (omega arith, omega arith)
rank_within refusal.BadOrigin = (omega arith, omega arith)

module _ (text : List ℕ) (lexing : Lexing) where
  -- a text that is too long, where no token is refused that ends before
  pub long_first : text_limit < length text → ((token : Lexeme) (reason : Refusal) → IsRefused lexing.lexemes token reason → text_limit < end_of token) → (at : ℕ) (rank : Rank) (other : MapFault) → Stands text lexing at rank other → ComesNoLater (text_limit + 1) of_length at rank
  long_first long late at rank other (too_long is) = comes (text_limit + 1) of_length at rank (omega arith) (omega arith)
  long_first long late at rank other (refused {token = token} {reason = reason} is) =
      let later = late token reason is in
      comes (text_limit + 1) of_length at rank (omega arith) (omega arith)
  long_first long late at rank other (unclosed is) = comes (text_limit + 1) of_length at rank (omega arith) (omega arith)
  long_first long late at rank other (end_inside closed is) = comes (text_limit + 1) of_length at rank (omega arith) (omega arith)
  long_first long late at rank other (no_entity closed is) = comes (text_limit + 1) of_length at rank (omega arith) (omega arith)

  -- a token that is refused and ends within the limit
  pub token_first : IsLexingOf text lexing → (token : Lexeme) (reason : Refusal) → IsRefused lexing.lexemes token reason → end_of token ≤ text_limit → (at : ℕ) (rank : Rank) (other : MapFault) → Stands text lexing at rank other → ComesNoLater (end_of token) (rank_of reason) at rank
  token_first lexed token reason is early at rank other (too_long long) = inl (omega arith)
  token_first lexed token reason is early at rank other (refused {token = second} {reason = why} again) =
      let same = one_refused lexing.lexemes token second reason why is again in
      comes (end_of token) (rank_of reason) (end_of second) (rank_of why)
      (le_of_eq (ap end_of same.0)) (le_of_eq (ap (λ (r : Refusal). rank_number (rank_of r)) same.1))
  token_first lexed token reason is early at rank other (unclosed line) =
      let within = ends_within text lexing is.before is.after token lexed is.split in
      let ranks = rank_within reason in
      comes (end_of token) (rank_of reason) (length text) of_end within (omega arith)
  token_first lexed token reason is early at rank other (end_inside closed ends) =
      let within = ends_within text lexing is.before is.after token lexed is.split in
      let ranks = rank_within reason in
      comes (end_of token) (rank_of reason) (length text) of_end within (omega arith)
  token_first lexed token reason is early at rank other (no_entity closed ends) =
      let within = ends_within text lexing is.before is.after token lexed is.split in
      let ranks = rank_within reason in
      comes (end_of token) (rank_of reason) (length text) of_end within (omega arith)

  -- a fault at the end, where the text is not too long and all tokens are read
  pub end_first : length text ≤ text_limit → (prefix : Prefix) → steps (between_entities []) lexing.lexemes ≡ Ok prefix → (at : ℕ) (rank : Rank) (other : MapFault) → Stands text lexing at rank other → ComesNoLater (length text) of_end at rank
  end_first short prefix read at rank other (too_long long) = absurd (omega arith)
  end_first short prefix read at rank other (refused {token = token} {reason = reason} is) = absurd (none_refused lexing.lexemes prefix token reason read is)
  end_first short prefix read at rank other (unclosed line) = comes (length text) of_end (length text) of_end (omega arith) (omega arith)
  end_first short prefix read at rank other (end_inside closed ends) = comes (length text) of_end (length text) of_end (omega arith) (omega arith)
  end_first short prefix read at rank other (no_entity closed ends) = comes (length text) of_end (length text) of_end (omega arith) (omega arith)

  -- ---- one fault at an offset and of a rank

  -- a text that ends inside has a token
  not_inside : EndsInside lexing.lexemes → lexing.lexemes ≡ [] → ⊥
  not_inside ends none =
      let read : runs (between_entities []) (map symbol_of lexing.lexemes) ≡ Ok ends.prefix = prefix_runs (map symbol_of lexing.lexemes) ends.prefix ends.is_prefix in
      let nothing : runs (between_entities []) (map symbol_of lexing.lexemes) ≡ Ok (between_entities []) = ap (λ (l : List Lexeme). runs (between_entities []) (map symbol_of l)) none in
      let same : ends.prefix ≡ between_entities [] = same_ok (runs (between_entities []) (map symbol_of lexing.lexemes)) ends.prefix (between_entities []) read nothing in
      ends.inside (ap (λ (f : Prefix). f.context) same)

  pub same_fault : (at other_at : ℕ) (rank other_rank : Rank) (one other : MapFault) → Stands text lexing at rank one → Stands text lexing other_at other_rank other → at ≡ other_at → rank_number rank ≡ rank_number other_rank → one ≡ other
  same_fault at other_at rank other_rank one other (too_long long) (too_long long') offsets ranks = refl
  same_fault at other_at rank other_rank one other (too_long long) (refused {reason = reason} is) offsets ranks = absurd (let within = rank_within reason in omega arith)
  same_fault at other_at rank other_rank one other (too_long long) (unclosed is) offsets ranks = absurd (omega arith)
  same_fault at other_at rank other_rank one other (too_long long) (end_inside closed is) offsets ranks = absurd (omega arith)
  same_fault at other_at rank other_rank one other (too_long long) (no_entity closed is) offsets ranks = absurd (omega arith)
  same_fault at other_at rank other_rank one other (refused {reason = reason} is) (too_long long) offsets ranks = absurd (let within = rank_within reason in omega arith)
  same_fault at other_at rank other_rank one other (refused {token = token} {reason = reason} is) (refused {token = second} {reason = why} again) offsets ranks =
      let same = one_refused lexing.lexemes token second reason why is again in
      ap₂ (λ (r : Refusal) (t : Lexeme). fault_of r t.line) same.1 same.0
  same_fault at other_at rank other_rank one other (refused {reason = reason} is) (unclosed line) offsets ranks = absurd (let within = rank_within reason in omega arith)
  same_fault at other_at rank other_rank one other (refused {reason = reason} is) (end_inside closed ends) offsets ranks = absurd (let within = rank_within reason in omega arith)
  same_fault at other_at rank other_rank one other (refused {reason = reason} is) (no_entity closed ends) offsets ranks = absurd (let within = rank_within reason in omega arith)
  same_fault at other_at rank other_rank one other (unclosed is) (too_long long) offsets ranks = absurd (omega arith)
  same_fault at other_at rank other_rank one other (unclosed line) (refused {reason = reason} is) offsets ranks = absurd (let within = rank_within reason in omega arith)
  same_fault at other_at rank other_rank one other (unclosed {line = line} is) (unclosed {line = line'} is') offsets ranks =
      let same : line ≡ line' = cc in
      ap (λ (l : ℕ). fault.UnclosedQuote l) same
  same_fault at other_at rank other_rank one other (unclosed is) (end_inside closed ends) offsets ranks = absurd cc
  same_fault at other_at rank other_rank one other (unclosed is) (no_entity closed ends) offsets ranks = absurd cc
  same_fault at other_at rank other_rank one other (end_inside closed ends) (too_long long) offsets ranks = absurd (omega arith)
  same_fault at other_at rank other_rank one other (end_inside closed ends) (refused {reason = reason} is) offsets ranks = absurd (let within = rank_within reason in omega arith)
  same_fault at other_at rank other_rank one other (end_inside closed ends) (unclosed is) offsets ranks = absurd cc
  same_fault at other_at rank other_rank one other (end_inside closed ends) (end_inside closed' ends') offsets ranks = refl
  same_fault at other_at rank other_rank one other (end_inside closed ends) (no_entity closed' none) offsets ranks = absurd (not_inside ends none)
  same_fault at other_at rank other_rank one other (no_entity closed none) (too_long long) offsets ranks = absurd (omega arith)
  same_fault at other_at rank other_rank one other (no_entity closed none) (refused {reason = reason} is) offsets ranks = absurd (let within = rank_within reason in omega arith)
  same_fault at other_at rank other_rank one other (no_entity closed none) (unclosed is) offsets ranks = absurd cc
  same_fault at other_at rank other_rank one other (no_entity closed none) (end_inside closed' ends) offsets ranks = absurd (not_inside ends none)
  same_fault at other_at rank other_rank one other (no_entity closed none) (no_entity closed' none') offsets ranks = refl

  earliest : (at other_at : ℕ) (rank other_rank : Rank) → ComesNoLater at rank other_at other_rank → ComesNoLater other_at other_rank at rank → (at ≡ other_at) × (rank_number rank ≡ rank_number other_rank)
  earliest at other_at rank other_rank (inl less) (inl more) = absurd (omega arith)
  earliest at other_at rank other_rank (inl less) (inr same) = absurd (let e = same.0 in omega arith)
  earliest at other_at rank other_rank (inr same) (inl more) = absurd (let e = same.0 in omega arith)
  earliest at other_at rank other_rank (inr (offsets, below)) (inr (again, above)) = (offsets, omega arith)

  -- a text has one first fault at most
  pub one_first_fault : (one other : MapFault) → IsFirstFault text lexing one → IsFirstFault text lexing other → one ≡ other
  one_first_fault one other is again =
      let same = earliest is.at again.at is.rank again.rank (is.first again.at again.rank other again.stands) (again.first is.at is.rank one is.stands) in
      same_fault is.at again.at is.rank again.rank one other is.stands again.stands same.0 same.1
