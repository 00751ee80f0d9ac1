-- Which faults of a text so far are certain: that of a refused token that has ended within the limit, else that the text
-- is too long once it is, and no other.
use Rattle.std.proofs.Common.{◌≡◌, ℕ, ◌+◌, ◌<◌, ◌≤◌, List, [], ◌∷◌, ◌++◌, Option, Result, Ok, Err, length, take, refl, sym, ap, subst, ◌∙◌, append_assoc, append-nil, length-append, arith}
use Rattle.std.specs.Prelude.{All}
use Rattle.std.proofs.lemmas.Bool.{lt-ltb, le-ltb}
use Rattle.std.proofs.lemmas.List.{take-append-le, take_all}
use Rattle.std.proofs.lemmas.List.Elements.{All-head, All-tail}
use Rattle.qm_lists.proofs.Cases.{by_result}
use Rattle.qm_tokens.specs.Lexeme.{Lexeme, line_ends}
use Rattle.qm_tokens.specs.Lexing.{Lexing}
use Rattle.qm_tokens.specs.inner.Modes.{between, at_end, read}
use Rattle.qm_mapfile.specs.declared.entity.MapFile.{MapFile}
use Rattle.qm_grammar.specs.declared.refusal.Refusal.{Refusal}
use Rattle.qm_grammar.specs.declared.fault.MapFault.{MapFault}
use Rattle.qm_grammar.specs.declared.fault.MapFault.TheVariants as fault
use Rattle.qm_grammar.specs.Symbol.{symbol_of}
use Rattle.qm_grammar.specs.Prefix.{Prefix, between_entities}
use Rattle.qm_grammar.specs.Faults.{text_limit, line_at, end_of, fault_of}
use Rattle.qm_grammar.specs.Meaning.{Means, IsFaultText}
use Rattle.qm_grammar.specs.inner.Machine.{step, steps, refused_at, ended, meaning_of}
use Rattle.qm_grammar.proofs.Meanings.{means_meaning, meaning_only}
use Rattle.qm_grammar.proofs.Lexings.{one_lexing}
use Rattle.qm_grammar.proofs.CutTexts.{prefix_means}
use Rattle.qm_grammar.proofs.Runs.{not_both, same_err, steps_step, steps_refused}
use Rattle.qm_pieces.specs.LexingState.{LexingState, read_on}
use Rattle.qm_pieces.specs.TextSoFar.{lexemes_then, IsLexedTo}
use Rattle.qm_pieces.specs.Certain.{IsCertain}
use Rattle.qm_pieces.proofs.ShortTexts.{short_not_long}
use Rattle.qm_pieces.proofs.Letters.{letters, letters_length, EndsAt, letters_end}

-- ---- rows of tokens

-- what a reader of tokens ends with: a prefix, or a token that is refused
abbrev Outcome : Type 0
Outcome = Result Prefix (Refusal × Lexeme)

-- behind lexemes that are read
pub steps_behind : (prefix next : Prefix) (lexemes others : List Lexeme) → steps prefix lexemes ≡ Ok next → steps prefix (lexemes ++ others) ≡ steps next others
steps_behind prefix next [] others read = ap (λ (f : Prefix). steps f others) cc
steps_behind prefix next (lexeme ∷ lexemes) others read =
    by_result (step prefix (symbol_of lexeme))
    (λ mid is. steps_step prefix mid lexeme (lexemes ++ others) is
    ∙ steps_behind mid next lexemes others (sym (steps_step prefix mid lexeme lexemes is) ∙ read))
    (λ reason is. not_both (steps prefix (lexeme ∷ lexemes)) next (reason, lexeme) read (steps_refused prefix lexeme lexemes reason is))

-- behind lexemes of which one is refused
pub refused_before : (prefix : Prefix) (lexemes others : List Lexeme) (refused : Refusal × Lexeme) → steps prefix lexemes ≡ Err refused → steps prefix (lexemes ++ others) ≡ Err refused
refused_before prefix [] others refused is = not_both (steps prefix []) prefix refused refl is
refused_before prefix (lexeme ∷ lexemes) others refused is =
    by_result (step prefix (symbol_of lexeme))
    (λ mid goes. steps_step prefix mid lexeme (lexemes ++ others) goes
    ∙ refused_before mid lexemes others refused (sym (steps_step prefix mid lexeme lexemes goes) ∙ is))
    (λ reason stops. steps_refused prefix lexeme (lexemes ++ others) reason stops ∙ sym (steps_refused prefix lexeme lexemes reason stops) ∙ is)

-- what is refused is one of the tokens
pub steps_late : (P : Lexeme → Type 0) (prefix : Prefix) (lexemes : List Lexeme) (refused : Refusal × Lexeme) → All P lexemes → steps prefix lexemes ≡ Err refused → P refused.1
steps_late P prefix [] refused all is = not_both (steps prefix []) prefix refused refl is
steps_late P prefix (lexeme ∷ lexemes) refused all is =
    by_result (step prefix (symbol_of lexeme))
    (λ mid goes. steps_late P mid lexemes refused (All-tail P lexeme lexemes all) (sym (steps_step prefix mid lexeme lexemes goes) ∙ is))
    (λ reason stops.
    let same : (reason, lexeme) ≡ refused = same_err (steps prefix (lexeme ∷ lexemes)) (reason, lexeme) refused (steps_refused prefix lexeme lexemes reason stops) is in
    subst (λ (r : Refusal × Lexeme). P r.1) same (All-head P lexeme lexemes all))

-- ---- what a text means

-- it means the fault that the machine finds
pub fault_meant : (text : List ℕ) (found : MapFault) → meaning_of text ≡ Err found → IsFaultText text found
fault_meant text found is = subst (λ (r : Result MapFile MapFault). Means text r) is (means_meaning text)

pub fault_found : (text : List ℕ) (found : MapFault) → IsFaultText text found → meaning_of text ≡ Err found
fault_found text found is = sym (meaning_only text (Err found) is)

-- a token is refused whose end is within the limit
refused_within : (text : List ℕ) (reason : Refusal) (token : Lexeme) → end_of token ≤ text_limit → refused_at text reason token ≡ fault_of reason token.line
refused_within text reason token within = rw (le-ltb text_limit (end_of token) within) refl

-- a text past the limit, of which no token is refused that ends within the limit
too_long_is : (text : List ℕ) (unclosed : Option ℕ) (outcome : Outcome) → text_limit < length text → ((refused : Refusal × Lexeme) → outcome ≡ Err refused → text_limit < end_of refused.1) → ended text unclosed outcome ≡ Err (fault.TextTooLong (line_at text text_limit))
too_long_is text unclosed (Ok prefix) long late = rw (lt-ltb text_limit (length text) long) refl
too_long_is text unclosed (Err refused) long late = rw (lt-ltb text_limit (end_of refused.1) (late refused refl)) refl

-- ---- a text so far

module _ (text : List ℕ) (given : List Lexeme) (state : LexingState) (lexed : IsLexedTo text given state) where
  -- what follows is read behind the tokens so far
  meaning_so_far : (more : List ℕ) → meaning_of (text ++ more) ≡ ended (text ++ more) (read_on state more).unclosed_line (steps (between_entities []) (given ++ (read_on state more).lexemes))
  unfolding meaning_of
  meaning_so_far more =
      let same : read between 0 1 (text ++ more) ≡ lexemes_then given (read_on state more) = sym (one_lexing (text ++ more) (lexemes_then given (read_on state more)) (lexed.goes_on more)) in
      ap (λ (l : Lexing). ended (text ++ more) l.unclosed_line (steps (between_entities []) l.lexemes)) same

  -- a token that has ended within the limit is refused
  pub refused_certain : (reason : Refusal) (token : Lexeme) → steps (between_entities []) given ≡ Err (reason, token) → end_of token ≤ text_limit → IsCertain text (fault_of reason token.line)
  refused_certain reason token refused within more =
      let outcome : steps (between_entities []) (given ++ (read_on state more).lexemes) ≡ Err (reason, token) = refused_before (between_entities []) given (read_on state more).lexemes (reason, token) refused in
      fault_meant (text ++ more) (fault_of reason token.line)
      (meaning_so_far more
      ∙ ap (λ (o : Outcome). ended (text ++ more) (read_on state more).unclosed_line o) outcome
      ∙ ap (λ (f : MapFault). Err f) (refused_within (text ++ more) reason token within))

  module _ (prefix : Prefix) (spelled : steps (between_entities []) given ≡ Ok prefix) where
    -- all tokens so far are read
    pub meaning_behind : (more : List ℕ) → meaning_of (text ++ more) ≡ ended (text ++ more) (read_on state more).unclosed_line (steps prefix (read_on state more).lexemes)
    meaning_behind more =
        meaning_so_far more ∙ ap (λ (o : Outcome). ended (text ++ more) (read_on state more).unclosed_line o) (steps_behind (between_entities []) prefix given (read_on state more).lexemes spelled)

    -- so many letters that the text is too long
    letters_mean : (n : ℕ) → text_limit < length text + n → meaning_of (text ++ letters n) ≡ Err (fault.TextTooLong (line_at (text ++ letters n) text_limit))
    letters_mean n long =
        let all = letters_end state.mode state.offset state.line n (state.offset + n) refl in
        meaning_behind (letters n)
        ∙ too_long_is (text ++ letters n) (read_on state (letters n)).unclosed_line (steps prefix (read_on state (letters n)).lexemes)
        (omega (arith, long, length-append text (letters n), letters_length n))
        (λ refused is.
        let ends : refused.1.end ≡ state.offset + n = steps_late (EndsAt (state.offset + n)) prefix (read_on state (letters n)).lexemes refused all is in
        omega (arith, ends, long, lexed.offset_is))

    -- a byte behind the limit, where no token is refused that ends within it
    pub too_long_certain : length text ≡ text_limit → (byte : ℕ) → ((refused : Refusal × Lexeme) → steps prefix (read_on state (byte ∷ [])).lexemes ≡ Err refused → text_limit < end_of refused.1) → IsCertain (text ++ byte ∷ []) (fault.TextTooLong (1 + line_ends text))
    too_long_certain full byte late more =
        let long : text_limit < length (text ++ byte ∷ []) = omega (arith, full, length-append text (byte ∷ [])) in
        let within : take text_limit (text ++ byte ∷ []) ≡ text = take-append-le text_limit text (byte ∷ []) (omega (arith, full)) ∙ take_all text_limit text (omega (arith, full)) in
        let means : meaning_of (text ++ byte ∷ []) ≡ Err (fault.TextTooLong (line_at (text ++ byte ∷ []) text_limit)) = meaning_behind (byte ∷ [])
        ∙ too_long_is (text ++ byte ∷ []) (read_on state (byte ∷ [])).unclosed_line (steps prefix (read_on state (byte ∷ [])).lexemes) long late in
        fault_meant ((text ++ byte ∷ []) ++ more) (fault.TextTooLong (1 + line_ends text))
        (prefix_means (text ++ byte ∷ []) more long ∙ means
        ∙ ap (λ (t : List ℕ). Err (fault.TextTooLong (1 + line_ends t))) within)

    -- the text ends here
    pub meaning_whole : length text ≤ text_limit → meaning_of text ≡ ended text (at_end state.mode state.offset).unclosed_line (steps prefix (at_end state.mode state.offset).lexemes)
    unfolding read
    meaning_whole short =
        let P : List ℕ → Type 0 = λ t. meaning_of t ≡ ended t (at_end state.mode state.offset).unclosed_line (steps prefix (at_end state.mode state.offset).lexemes) in
        subst P (append-nil text) (meaning_behind [])

-- ---- no fault is certain of a text within the limit, all of whose tokens so far are read

-- a number above the limit
beyond : (n : ℕ) × (text_limit < n)
beyond = (text_limit + 1, omega arith)

pub none_certain : (text : List ℕ) (given : List Lexeme) (state : LexingState) → IsLexedTo text given state → (prefix : Prefix) → steps (between_entities []) given ≡ Ok prefix → length text ≤ text_limit → (found : MapFault) → IsCertain text found → ⊥
none_certain text given state lexed prefix spelled short found certain =
    let n = beyond.0 in
    let longer = letters_mean text given state lexed prefix spelled n (omega (arith, beyond.1)) in
    let same : Err found ≡ Err (fault.TextTooLong (line_at (text ++ letters n) text_limit)) = sym (fault_found (text ++ letters n) found (certain (letters n))) ∙ longer in
    let is : found ≡ fault.TextTooLong (line_at (text ++ letters n) text_limit) = cc in
    let now : IsFaultText text found = subst (λ (t : List ℕ). IsFaultText t found) (append-nil text) (certain []) in
    short_not_long text (line_at (text ++ letters n) text_limit) short (subst (λ (f : MapFault). IsFaultText text f) is now)

-- ---- what is certain stays so

pub certain_behind : (text more : List ℕ) (found : MapFault) → IsCertain text found → IsCertain (text ++ more) found
certain_behind text more found certain further =
    subst (λ (t : List ℕ). IsFaultText t found) (sym (append_assoc text more further)) (certain (more ++ further))

pub one_certain : (text : List ℕ) (one other : MapFault) → IsCertain text one → IsCertain text other → one ≡ other
one_certain text one other certain again =
    let same : Err one ≡ Err other = sym (fault_found (text ++ []) one (certain [])) ∙ fault_found (text ++ []) other (again []) in
    cc

pub certain_now : (text : List ℕ) (found : MapFault) → IsCertain text found → IsFaultText text found
certain_now text found certain = subst (λ (t : List ℕ). IsFaultText t found) (append-nil text) (certain [])
