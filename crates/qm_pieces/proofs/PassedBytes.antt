-- Bytes that end no token: those that leave open what is open, and those of a text without a token up to a line end.
use Rattle.std.proofs.Common.{◌≡◌, ℕ, ◌+◌, ◌<◌, ◌≤◌, List, [], ◌∷◌, ◌++◌, Option, Some, None, IfSome, ⊎_elim, length, take, refl, sym, ap, subst, ◌∙◌, append_assoc, length-append, add-zero, arith}
use Rattle.std.specs.Prelude.{All}
use Rattle.std.proofs.lemmas.Bool.{le-leb, eq-eqb, ne_eqb, cases_eq}
use Rattle.std.proofs.lemmas.List.{length-take}
use Rattle.std.proofs.lemmas.List.Elements.{All-nil, All-head, All-tail}
use Rattle.qm_tokens.specs.Lexeme.{Lexeme, line_ends}
use Rattle.qm_tokens.specs.Lexing.{Lexing, IsLexingOf, nothing, prepend}
use Rattle.qm_tokens.specs.inner.Modes.{Mode, between, slash, in_comment, in_word, in_quote, mode_after, ended_by, quoted_before, read}
use Rattle.qm_tokens.proofs.PieceRuns.{line_ends-append, line_ends-cons}
use Rattle.qm_pieces.specs.LexingState.{LexingState, state_behind, state_between, token_ended_by, read_on}
use Rattle.qm_pieces.specs.TextSoFar.{lexemes_then, IsLexedTo}
use Rattle.qm_pieces.specs.Lexed.{HasLexed}
use Rattle.qm_pieces.specs.Shifted.{shifted_lexing}
use Rattle.qm_pieces.specs.inner.Keeping.{KeepsMode, AllKeepMode, AreBytesPassed}
use Rattle.qm_pieces.specs.inner.OpenToken.{state_of}
use Rattle.qm_pieces.proofs.ShiftedTexts.{read_shifted}

-- bytes end no token, and lead from a state to a mode, whatever follows
pub record LeadsOn (state : LexingState) (next : Mode) (bytes : List ℕ) : Type 0 where
  pub at : ℕ
  pub at_is : at ≡ state.offset + length bytes
  pub on : ℕ
  pub on_is : on ≡ state.line + line_ends bytes
  pub goes_on : (more : List ℕ) → read_on state (bytes ++ more) ≡ read next at on more

pub none_lead : (state : LexingState) → LeadsOn state state.mode []
none_lead state = record {
  at = state.offset;
  at_is = sym (add-zero state.offset);
  on = state.line;
  on_is = sym (add-zero state.line);
  goes_on = λ more. refl;
}

-- one more byte in front
one_more_leads : (state : LexingState) (next : Mode) (byte : ℕ) (bytes : List ℕ) → token_ended_by state byte ≡ None → LeadsOn (state_behind state byte) next bytes → LeadsOn state next (byte ∷ bytes)
unfolding read
one_more_leads state next byte bytes none rest = record {
  at = rest.at;
  at_is = omega (arith, rest.at_is);
  on = rest.on;
  on_is = omega (arith, rest.on_is, line_ends-cons byte bytes);
  goes_on =
      λ more.
      ap (λ (t : Option Lexeme). prepend t (read_on (state_behind state byte) (bytes ++ more))) none
      ∙ rest.goes_on more;
}

-- a text so far with such bytes behind it
pub lexed_on : (state : LexingState) (next : Mode) (text bytes : List ℕ) (given : List Lexeme) → (leads : LeadsOn state next bytes) → IsLexedTo text given state → IsLexedTo (text ++ bytes) given (record { mode = next; offset = leads.at; line = leads.on })
lexed_on state next text bytes given leads lexed = record {
  offset_is = omega (arith, lexed.offset_is, leads.at_is, length-append text bytes);
  line_is = omega (arith, lexed.line_is, leads.on_is, line_ends-append text bytes);
  goes_on =
      λ more.
      subst (λ (t : List ℕ). IsLexingOf t (lexemes_then given (read next leads.at leads.on more))) (sym (append_assoc text bytes more))
      (subst (λ (l : Lexing). IsLexingOf (text ++ (bytes ++ more)) (lexemes_then given l)) (leads.goes_on more) (lexed.goes_on (bytes ++ more)));
}

-- ---- bytes that leave open what is open

pub blank_keeps : (byte : ℕ) → byte ≤ 32 → KeepsMode between byte
blank_keeps byte blank = record { ends_none = λ offset. refl; keeps = λ offset line. rw (le-leb byte 32 blank) refl }

pub comment_keeps : (byte : ℕ) → (byte ≡ 10 → ⊥) → KeepsMode in_comment byte
comment_keeps byte other = record { ends_none = λ offset. refl; keeps = λ offset line. rw (ne_eqb byte 10 other) refl }

pub none_keep : (mode : Option Mode) → AllKeepMode mode []
none_keep None = refl
none_keep (Some mode) = All-nil (KeepsMode mode)

run_leads : (bytes : List ℕ) (state : LexingState) → All (KeepsMode state.mode) bytes → LeadsOn state state.mode bytes
run_leads [] state all = none_lead state
run_leads (byte ∷ bytes) state all =
    let first = All-head (KeepsMode state.mode) byte bytes all in
    let keeps = first.keeps state.offset state.line in
    let others = subst (λ (m : Mode). All (KeepsMode m) bytes) (sym keeps) (All-tail (KeepsMode state.mode) byte bytes all) in
    one_more_leads state state.mode byte bytes (first.ends_none state.offset)
    (subst (λ (m : Mode). LeadsOn (state_behind state byte) m bytes) keeps (run_leads bytes (state_behind state byte) others))

pub passed_lexed : (text bytes : List ℕ) (given : List Lexeme) (old new : Option LexingState) → AreBytesPassed old bytes new → HasLexed text given old → HasLexed (text ++ bytes) given new
passed_lexed text bytes given None new passed lexed = absurd lexed
passed_lexed text bytes given (Some state) new passed lexed =
    let leads = run_leads bytes state passed.0 in
    subst (λ (s : Option LexingState). HasLexed (text ++ bytes) given s) (sym passed.1)
    (subst (λ (l : ℕ). IsLexedTo (text ++ bytes) given (record { mode = state.mode; offset = state.offset + length bytes; line = l })) leads.on_is
    (subst (λ (o : ℕ). IsLexedTo (text ++ bytes) given (record { mode = state.mode; offset = o; line = leads.on })) leads.at_is
    (lexed_on state state.mode text bytes given leads lexed)))

-- so many bytes and line ends further on, a lexer is behind them
pub passed_is : (mode : Option Mode) (offset lines at on : ℕ) (bytes : List ℕ) → AllKeepMode mode bytes → at ≡ offset + length bytes → on ≡ lines + line_ends bytes → AreBytesPassed (state_of mode offset lines) bytes (state_of mode at on)
passed_is None offset lines at on bytes keep at_is on_is = refl
passed_is (Some mode) offset lines at on bytes keep at_is on_is =
    let line : on + 1 ≡ lines + 1 + line_ends bytes = omega (arith, on_is) in (
      keep,
      ap (λ (o : ℕ). Some (record { mode = mode; offset = o; line = on + 1 })) at_is
          ∙ ap (λ (l : ℕ). Some (record { mode = mode; offset = offset + length bytes; line = l })) line,
    )

-- as many bytes as are passed fit
pub passed_fit : (mode : Option Mode) (offset lines bound count : ℕ) (bytes : List ℕ) → offset < bound → IfSome (state_of mode offset lines) (λ state. state.offset + length bytes < bound) → AllKeepMode mode (take count bytes) → offset + length (take count bytes) < bound
passed_fit None offset lines bound count bytes below few keep = omega (arith, below, ap length keep)
passed_fit (Some mode) offset lines bound count bytes below few keep = omega (arith, few, length-take count bytes)

-- ---- bytes without a token, up to a line end

-- no token, and no quote that is open
nothing_parts : (token : Option Lexeme) (rest : Lexing) → prepend token rest ≡ nothing → (token ≡ None) × (rest ≡ nothing)
nothing_parts None rest is = (refl, is)
nothing_parts (Some token) rest is =
    let lists : token ∷ rest.lexemes ≡ [] = ap (λ (l : Lexing). l.lexemes) is in
    absurd cc

-- a quote that is open gives something
quote_gives : (bytes known : List ℕ) (start begun offset line : ℕ) → read (in_quote known start begun) offset line bytes ≡ nothing → ⊥
unfolding read
quote_gives [] known start begun offset line is =
    let lines : Some begun ≡ None = ap (λ (l : Lexing). l.unclosed_line) is in
    cc
quote_gives (byte ∷ bytes) known start begun offset line is =
    let parts = nothing_parts (ended_by (in_quote known start begun) offset byte) (read (mode_after (in_quote known start begun) offset line byte) (offset + 1) (line + line_ends (byte ∷ [])) bytes) is in
    ⊎_elim
    (λ quote.
    let token : Some (quoted_before offset known start begun) ≡ None = rw (eq-eqb byte 34 quote) at parts.0 in
    cc)
    (λ other. quote_gives bytes (known ++ byte ∷ []) start begun (offset + 1) (line + line_ends (byte ∷ [])) (rw (ne_eqb byte 34 other) at parts.1))
    (cases_eq byte 34)

-- so nothing is open behind a line end
behind_line : (mode : Mode) (offset line : ℕ) (bytes : List ℕ) → read (mode_after mode offset line 10) (offset + 1) (line + line_ends (10 ∷ [])) bytes ≡ nothing → mode_after mode offset line 10 ≡ between
behind_line between offset line bytes left = refl
behind_line (slash start begun) offset line bytes left = refl
behind_line in_comment offset line bytes left = refl
behind_line (in_word known start begun) offset line bytes left = refl
behind_line (in_quote known start begun) offset line bytes left =
    absurd (quote_gives bytes (known ++ 10 ∷ []) start begun (offset + 1) (line + line_ends (10 ∷ [])) left)

pub line_leads : (front rest : List ℕ) (state : LexingState) → read_on state (front ++ 10 ∷ rest) ≡ nothing → LeadsOn state between (front ++ 10 ∷ [])
unfolding read
line_leads [] rest state is =
    let parts = nothing_parts (token_ended_by state 10) (read_on (state_behind state 10) rest) is in
    one_more_leads state between 10 [] parts.0
    (subst (λ (m : Mode). LeadsOn (state_behind state 10) m []) (behind_line state.mode state.offset state.line rest parts.1) (none_lead (state_behind state 10)))
line_leads (byte ∷ front) rest state is =
    let parts = nothing_parts (token_ended_by state byte) (read_on (state_behind state byte) (front ++ 10 ∷ rest)) is in
    one_more_leads state between byte (front ++ 10 ∷ []) parts.0 (line_leads front rest (state_behind state byte) parts.1)

-- the same further on
pub leads_shifted : (further lines at on : ℕ) (bytes : List ℕ) → LeadsOn (state_between at on) between bytes → LeadsOn (state_between (further + at) (lines + on)) between bytes
leads_shifted further lines at on bytes leads = record {
  at = further + leads.at;
  at_is = omega (arith, leads.at_is);
  on = lines + leads.on;
  on_is = omega (arith, leads.on_is);
  goes_on =
      λ more.
      read_shifted further lines between at (further + at) on (lines + on) (bytes ++ more) refl refl
      ∙ ap (shifted_lexing further lines) (leads.goes_on more)
      ∙ sym (read_shifted further lines between leads.at (further + leads.at) leads.on (lines + leads.on) more refl refl);
}
