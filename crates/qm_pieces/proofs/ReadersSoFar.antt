-- What a reader of a text so far has read, and what one more byte, a piece or the end of the text does to that.
use Rattle.std.proofs.Common.{◌≡◌, ◌≢◌, ◌↔◌, ℕ, ◌+◌, ◌-◌, ◌<◌, ◌≤◌, List, [], ◌∷◌, ◌++◌, Option, Some, None, IfSome, IfOk, Result, Ok, Err, option_to_list, length, get_or, take, drop, take-append-drop, refl, sym, ap, subst, ◌∙◌, append-nil, append_assoc, length-append, add-zero, arith}
use Rattle.std.specs.Prelude.{All}
use Rattle.std.proofs.lemmas.Bool.{le-ltb}
use Rattle.std.proofs.lemmas.List.{take_more, length-take}
use Rattle.std.proofs.lemmas.List.Elements.{All-nil, All-cons, All-head}
use Rattle.qm_lists.proofs.Cases.{by_result}
use Rattle.qm_tokens.specs.declared.token.TokenKind.{TokenKind}
use Rattle.qm_tokens.specs.declared.token.TokenKind.TheVariants.{Word, Quoted}
use Rattle.qm_tokens.specs.Lexeme.{Lexeme, line_ends, quote_length}
use Rattle.qm_tokens.specs.Lexing.{Lexing, prepend, unclosed_on}
use Rattle.qm_tokens.specs.inner.Modes.{Mode, between, slash, in_comment, in_word, in_quote, at_end, read}
use Rattle.qm_mapfile.specs.declared.entity.MapFile.{MapFile}
use Rattle.qm_grammar.specs.declared.refusal.Refusal.{Refusal}
use Rattle.qm_grammar.specs.declared.fault.MapFault.{MapFault}
use Rattle.qm_grammar.specs.declared.fault.MapFault.TheVariants as fault
use Rattle.qm_grammar.specs.Symbol.{symbol_of}
use Rattle.qm_grammar.specs.Prefix.{Prefix, between_entities}
use Rattle.qm_grammar.specs.Faults.{text_limit, last_line, end_of, fault_of}
use Rattle.qm_grammar.specs.Meaning.{Means, IsFaultText}
use Rattle.qm_grammar.specs.inner.Machine.{step, steps, ended, meaning_of}
use Rattle.qm_grammar.proofs.Meanings.{means_meaning}
use Rattle.qm_grammar.specs.Valid.{IsValidMap}
use Rattle.qm_grammar.proofs.ValidMaps.{map_valid}
use Rattle.qm_grammar.proofs.Runs.{steps_step, steps_refused}
use Rattle.qm_pieces.specs.declared.owned_token.OwnedToken.{OwnedToken}
use Rattle.qm_pieces.specs.declared.piece_fault.PieceFault.{PieceFault}
use Rattle.qm_pieces.specs.declared.piece_fault.PieceFault.TheVariants.{UnclosedQuote, Memory}
use Rattle.qm_pieces.specs.LexingState.{LexingState, state_at_start, state_behind, token_ended_by, read_on}
use Rattle.qm_pieces.specs.TextSoFar.{IsLexedTo}
use Rattle.qm_pieces.specs.Lexed.{HasLexed}
use Rattle.qm_pieces.specs.Certain.{IsCertain}
use Rattle.qm_pieces.specs.ReadSoFar.{ReadSoFar, IsReadOf, IsReaderOf, reader_of}
use Rattle.qm_pieces.specs.inner.Keeping.{AreBytesPassed}
use Rattle.qm_pieces.specs.Pushing.{owned_lexeme, owned_lexemes, IsBytePushed, IsEndOf}
use Rattle.qm_pieces.specs.inner.Accepting.{IsTokenAccepted, IsReadOn, closed_on, closed_behind, end_answer, fault_at_limit, limit_fault, IsEndAnswer}
use Rattle.qm_pieces.proofs.Letters.{EndsAt, last_ends, ended_ends}
use Rattle.qm_pieces.proofs.TextsSoFar.{lexed_at_start}
use Rattle.qm_pieces.proofs.Lexers.{lexed_token, has_lexed_behind}
use Rattle.qm_pieces.proofs.PassedBytes.{passed_lexed}
use Rattle.qm_pieces.proofs.Certainty.{steps_behind, steps_late, refused_certain, too_long_certain, meaning_whole, none_certain, certain_behind, one_certain, certain_now}

-- before the first byte
pub read_at_start : IsReadOf [] (record { lexer = Some state_at_start; prefix = between_entities [] })
read_at_start = record { short = omega arith; ended = []; lexed = lexed_at_start; spelled = refl }

-- quotes take one byte at most
pub quote_one : (kind : TokenKind) → quote_length kind ≤ 1
quote_one Word = omega arith
quote_one Quoted = omega arith

-- the token that a byte ends, without its closing quote, ends before the byte
token_ends : (state : LexingState) (byte : ℕ) (token : OwnedToken) → Some (owned_lexeme token) ≡ token_ended_by state byte → token.end ≡ state.offset
token_ends state byte token is = subst (λ (t : Option Lexeme). IfSome t (EndsAt state.offset)) (sym is) (ended_ends state.mode state.offset byte)

-- tokens that are read, and one more
pub one_more : (prefix next : Prefix) (given : List Lexeme) (lexeme : Lexeme) → steps (between_entities []) given ≡ Ok prefix → step prefix (symbol_of lexeme) ≡ Ok next → steps (between_entities []) (given ++ lexeme ∷ []) ≡ Ok next
one_more prefix next given lexeme spelled read =
    steps_behind (between_entities []) prefix given (lexeme ∷ []) spelled ∙ steps_step prefix next lexeme [] read

pub one_refused : (prefix : Prefix) (reason : Refusal) (given : List Lexeme) (lexeme : Lexeme) → steps (between_entities []) given ≡ Ok prefix → step prefix (symbol_of lexeme) ≡ Err reason → steps (between_entities []) (given ++ lexeme ∷ []) ≡ Err (reason, lexeme)
one_refused prefix reason given lexeme spelled refused =
    steps_behind (between_entities []) prefix given (lexeme ∷ []) spelled ∙ steps_refused prefix lexeme [] reason refused

module _ (text : List ℕ) (prefix next : Prefix) (byte : ℕ) where
  -- a byte within the limit
  pub byte_read : (old new : Option LexingState) (token : Option OwnedToken) (answer : Result (Unit {0}) MapFault) → IsReadOf text (record { lexer = old; prefix = prefix }) → IfSome old (λ state. state.offset < text_limit) → IsBytePushed old byte token new → IsTokenAccepted prefix token next answer → IsReadOn (text ++ byte ∷ []) (record { lexer = new; prefix = next }) answer
  byte_read None new token answer is within pushed accepted = absurd is.lexed
  byte_read (Some state) new None (Ok _) is within pushed accepted = record {
    short = omega (arith, within, is.lexed.offset_is, length-append text (byte ∷ []));
    ended = is.ended ++ [];
    lexed = has_lexed_behind text is.ended (Some state) new byte None pushed is.lexed;
    spelled = ap (steps (between_entities [])) (append-nil is.ended) ∙ is.spelled ∙ ap (λ (p : Prefix). Ok p) (sym accepted);
  }
  byte_read (Some state) new None (Err found) is within pushed accepted = absurd accepted
  byte_read (Some state) new (Some token) (Ok _) is within pushed accepted = record {
    short = omega (arith, within, is.lexed.offset_is, length-append text (byte ∷ []));
    ended = is.ended ++ owned_lexeme token ∷ [];
    lexed = has_lexed_behind text is.ended (Some state) new byte (Some token) pushed is.lexed;
    spelled = one_more prefix next is.ended (owned_lexeme token) is.spelled accepted;
  }
  byte_read (Some state) new (Some token) (Err found) is within pushed accepted =
      λ other.
      let refused = accepted other in
      let ends = token_ends state byte token pushed.0 in
      subst (λ (f : MapFault). IsCertain (text ++ byte ∷ []) f) (sym refused.fault_is)
      (refused_certain (text ++ byte ∷ []) (is.ended ++ owned_lexeme token ∷ []) (state_behind state byte) (lexed_token text is.ended state byte (Some token) pushed.0 is.lexed) refused.reason (owned_lexeme token)
      (one_refused prefix refused.reason is.ended (owned_lexeme token) is.spelled refused.refused)
      (omega (arith, ends, within, quote_one token.kind)))

-- bytes that leave open what is open, at the beginning of some that are within the limit
pub bytes_read : (text bytes : List ℕ) (count : ℕ) (prefix : Prefix) (old new : Option LexingState) → IsReadOf text (record { lexer = old; prefix = prefix }) → IfSome old (λ state. state.offset + length bytes ≤ text_limit) → AreBytesPassed old (take count bytes) new → IsReadOf (text ++ take count bytes) (record { lexer = new; prefix = prefix })
bytes_read text bytes count prefix None new is within passed = absurd is.lexed
bytes_read text bytes count prefix (Some state) new is within passed = record {
  short = omega (arith, within, is.lexed.offset_is, length-append text (take count bytes), length-take count bytes);
  ended = is.ended;
  lexed = passed_lexed text (take count bytes) is.ended (Some state) new passed is.lexed;
  spelled = is.spelled;
}

-- the lexer stays within the limit
pub passed_below : (bytes : List ℕ) (count : ℕ) (old new : Option LexingState) → IfSome old (λ state. state.offset + length bytes ≤ text_limit) → AreBytesPassed old (take count bytes) new → IfSome new (λ state. state.offset ≤ text_limit)
passed_below bytes count None new within passed =
    subst (λ (s : Option LexingState). IfSome s (λ state. state.offset ≤ text_limit)) (sym passed) tt
passed_below bytes count (Some state) new within passed =
    subst (λ (s : Option LexingState). IfSome s (λ state. state.offset ≤ text_limit)) (sym passed.1) (omega (arith, within, length-take count bytes))

-- room below the limit
pub room_below : (lexer : Option LexingState) (offset count : ℕ) → IfSome lexer (λ state. offset ≡ state.offset) → IfSome lexer (λ state. state.offset ≤ text_limit) → count ≤ text_limit - offset → IfSome lexer (λ state. state.offset + count ≤ text_limit)
room_below None offset count is below room = tt
room_below (Some state) offset count is below room = omega (arith, is, below, room)

-- ---- a byte behind the limit

-- a token ends, with its closing quote, behind the limit
abbrev IsLate : Lexeme → Type 0
IsLate lexeme = text_limit < end_of lexeme

prepended_lexemes : (token : Option Lexeme) (rest : Lexing) → (prepend token rest).lexemes ≡ option_to_list token ++ rest.lexemes
prepended_lexemes None rest = refl
prepended_lexemes (Some token) rest = refl

module _ (text : List ℕ) (prefix : Prefix) (byte : ℕ) (state : LexingState) (given : List Lexeme) (lexed : IsLexedTo text given state) (spelled : steps (between_entities []) given ≡ Ok prefix) (full : length text ≡ text_limit) where
  -- what ends with the text ends late
  last_late : All IsLate (at_end (state_behind state byte).mode (state.offset + 1)).lexemes
  last_late =
      let ends = last_ends (state_behind state byte).mode (state.offset + 1) in
      λ k d inside. omega (arith, ends k d inside, lexed.offset_is, full)

  -- the tokens behind the limit
  tokens_behind : (token : Option Lexeme) → token ≡ token_ended_by state byte → (read_on state (byte ∷ [])).lexemes ≡ option_to_list token ++ (at_end (state_behind state byte).mode (state.offset + 1)).lexemes
  unfolding read
  tokens_behind token is =
      prepended_lexemes (token_ended_by state byte) (at_end (state_behind state byte).mode (state.offset + 1))
      ∙ ap (λ (t : Option Lexeme). option_to_list t ++ (at_end (state_behind state byte).mode (state.offset + 1)).lexemes) (sym is)

  -- the text is too long, where the tokens behind the limit lead to this
  late_long : (tokens : List Lexeme) (mid : Prefix) → steps prefix (read_on state (byte ∷ [])).lexemes ≡ steps mid tokens → All IsLate tokens → IsCertain (text ++ byte ∷ []) (fault.TextTooLong (1 + line_ends text))
  late_long tokens mid same late =
      too_long_certain text given state lexed prefix spelled full byte
      (λ stopped is. steps_late IsLate mid tokens stopped late (sym same ∙ is))

  none_ended : None ≡ token_ended_by state byte → IsCertain (text ++ byte ∷ []) (fault.TextTooLong (1 + line_ends text))
  none_ended is = late_long (at_end (state_behind state byte).mode (state.offset + 1)).lexemes prefix (ap (steps prefix) (tokens_behind None is)) last_late

  module _ (token : OwnedToken) (is : Some (owned_lexeme token) ≡ token_ended_by state byte) where
    with_token : steps prefix (read_on state (byte ∷ [])).lexemes ≡ steps prefix (owned_lexeme token ∷ (at_end (state_behind state byte).mode (state.offset + 1)).lexemes)
    with_token = ap (steps prefix) (tokens_behind (Some (owned_lexeme token)) is)

    word_read : (next : Prefix) → step prefix (symbol_of (owned_lexeme token)) ≡ Ok next → IsCertain (text ++ byte ∷ []) (fault.TextTooLong (1 + line_ends text))
    word_read next read =
        late_long (at_end (state_behind state byte).mode (state.offset + 1)).lexemes next
        (with_token ∙ steps_step prefix next (owned_lexeme token) (at_end (state_behind state byte).mode (state.offset + 1)).lexemes read) last_late

    quoted_late : token.kind ≡ Quoted → IsCertain (text ++ byte ∷ []) (fault.TextTooLong (1 + line_ends text))
    quoted_late quoted =
        let ends = token_ends state byte token is in
        let one : quote_length token.kind ≡ 1 = ap quote_length quoted in
        late_long (owned_lexeme token ∷ (at_end (state_behind state byte).mode (state.offset + 1)).lexemes) prefix with_token
        (All-cons IsLate (owned_lexeme token) (at_end (state_behind state byte).mode (state.offset + 1)).lexemes (omega (arith, ends, one, lexed.offset_is, full)) last_late)

    word_refused : (reason : Refusal) → step prefix (symbol_of (owned_lexeme token)) ≡ Err reason → token.kind ≡ Word → IsCertain (text ++ byte ∷ []) (fault_of reason token.line)
    word_refused reason refused word =
        let ends = token_ends state byte token is in
        let none : quote_length token.kind ≡ 0 = ap quote_length word in
        refused_certain (text ++ byte ∷ []) (given ++ owned_lexeme token ∷ []) (state_behind state byte) (lexed_token text given state byte (Some token) is lexed) reason (owned_lexeme token)
        (one_refused prefix reason given (owned_lexeme token) spelled refused)
        (omega (arith, ends, none, lexed.offset_is, full))

    token_ended : (line : ℕ) → line ≡ 1 + line_ends text → (kind : TokenKind) → token.kind ≡ kind → (r : Result Prefix Refusal) → step prefix (symbol_of (owned_lexeme token)) ≡ r → IsCertain (text ++ byte ∷ []) (fault_at_limit kind r token.line line)
    token_ended line line_is Word word (Err reason) refused = word_refused reason refused word
    token_ended line line_is Word word (Ok next) read = rw line_is (word_read next read)
    token_ended line line_is Quoted quoted r is_r = rw line_is (quoted_late quoted)

-- a byte behind the limit makes a fault certain
pub limit_passed : (text : List ℕ) (prefix : Prefix) (byte line : ℕ) (old new : Option LexingState) (token : Option OwnedToken) → IsReadOf text (record { lexer = old; prefix = prefix }) → IfSome old (λ state. text_limit ≤ state.offset) → IfSome old (λ state. line ≡ state.line) → IsBytePushed old byte token new → IsCertain (text ++ byte ∷ []) (limit_fault prefix token line)
limit_passed text prefix byte line None new token is past on_line pushed = absurd is.lexed
limit_passed text prefix byte line (Some state) new None is past on_line pushed =
    let full : length text ≡ text_limit = omega (arith, past, is.short, is.lexed.offset_is) in
    rw (on_line ∙ is.lexed.line_is) (none_ended text prefix byte state is.ended is.lexed is.spelled full pushed.0)
limit_passed text prefix byte line (Some state) new (Some token) is past on_line pushed =
    let full : length text ≡ text_limit = omega (arith, past, is.short, is.lexed.offset_is) in
    token_ended text prefix byte state is.ended is.lexed is.spelled full token pushed.0 line (on_line ∙ is.lexed.line_is) token.kind refl (step prefix (symbol_of (owned_lexeme token))) refl

-- ---- the end of the text

-- a last token ends with the text
whole_ends : (mode : Mode) (offset : ℕ) → All (λ lexeme. end_of lexeme ≡ offset) (at_end mode offset).lexemes
whole_ends between offset = All-nil (λ lexeme. end_of lexeme ≡ offset)
whole_ends (slash start line) offset = All-cons (λ lexeme. end_of lexeme ≡ offset) _ [] (add-zero offset) (All-nil (λ lexeme. end_of lexeme ≡ offset))
whole_ends in_comment offset = All-nil (λ lexeme. end_of lexeme ≡ offset)
whole_ends (in_word bytes start line) offset = All-cons (λ lexeme. end_of lexeme ≡ offset) _ [] (add-zero offset) (All-nil (λ lexeme. end_of lexeme ≡ offset))
whole_ends (in_quote bytes start line) offset = All-nil (λ lexeme. end_of lexeme ≡ offset)

module _ (text : List ℕ) (prefix : Prefix) (short : length text ≤ text_limit) where
  ends_closed : ended text None (Ok prefix) ≡ closed_on (last_line text) prefix
  ends_closed = rw (le-ltb text_limit (length text) short) refl

  ends_refused : (reason : Refusal) (lexeme : Lexeme) → end_of lexeme ≤ text_limit → ended text None (Err (reason, lexeme)) ≡ Err (fault_of reason lexeme.line)
  ends_refused reason lexeme within = rw (le-ltb text_limit (end_of lexeme) within) refl

  ends_unclosed : (line : ℕ) → ended text (Some line) (Ok prefix) ≡ Err (fault.UnclosedQuote line)
  ends_unclosed line = rw (le-ltb text_limit (length text) short) refl

  ends_behind : (token : OwnedToken) → end_of (owned_lexeme token) ≤ text_limit → ended text None (steps prefix (owned_lexeme token ∷ [])) ≡ closed_behind token.line (last_line text) (step prefix (symbol_of (owned_lexeme token)))
  ends_behind token within =
      by_result (step prefix (symbol_of (owned_lexeme token)))
      (λ next read. rw (steps_step prefix next (owned_lexeme token) [] read, read) (rw (le-ltb text_limit (length text) short) refl))
      (λ reason refused. rw (steps_refused prefix (owned_lexeme token) [] reason refused, refused) (ends_refused reason (owned_lexeme token) within))

module _ (text : List ℕ) (prefix : Prefix) (state : LexingState) (given : List Lexeme) (lexed : IsLexedTo text given state) (spelled : steps (between_entities []) given ≡ Ok prefix) (short : length text ≤ text_limit) where
  whole_is : (last : Lexing) → at_end state.mode state.offset ≡ last → meaning_of text ≡ ended text last.unclosed_line (steps prefix last.lexemes)
  whole_is last is =
      meaning_whole text given state lexed prefix spelled short
      ∙ ap (λ (l : Lexing). ended text l.unclosed_line (steps prefix l.lexemes)) is

  -- where no quote is open
  whole_closed : (last : Option OwnedToken) → at_end state.mode state.offset ≡ record { lexemes = owned_lexemes last; unclosed_line = None } → meaning_of text ≡ end_answer prefix last (last_line text)
  whole_closed None is = whole_is (record { lexemes = []; unclosed_line = None }) is ∙ ends_closed text prefix short
  whole_closed (Some token) is =
      let all : All (λ lexeme. end_of lexeme ≡ state.offset) (owned_lexeme token ∷ []) = subst (λ (l : Lexing). All (λ lexeme. end_of lexeme ≡ state.offset) l.lexemes) is (whole_ends state.mode state.offset) in
      let ends : end_of (owned_lexeme token) ≡ state.offset = All-head (λ lexeme. end_of lexeme ≡ state.offset) (owned_lexeme token) [] all in
      whole_is (record { lexemes = owned_lexeme token ∷ []; unclosed_line = None }) is
      ∙ ends_behind text prefix short token (omega (arith, ends, lexed.offset_is, short))

  -- where a quote is open
  whole_unclosed : (line : ℕ) → at_end state.mode state.offset ≡ unclosed_on line → meaning_of text ≡ Err (fault.UnclosedQuote line)
  whole_unclosed line is = whole_is (unclosed_on line) is ∙ ends_unclosed text prefix short line

end_is : (text : List ℕ) (prefix : Prefix) (line : ℕ) (lexer : Option LexingState) (answer : Result (Option OwnedToken) PieceFault) (result : Result MapFile MapFault) → IsReadOf text (record { lexer = lexer; prefix = prefix }) → IfSome lexer (λ state. line ≡ state.line) → IsEndOf lexer answer → IsEndAnswer prefix line answer result → result ≢ Err fault.Memory → result ≡ meaning_of text
end_is text prefix line None answer result is on_line ends answers apart = absurd is.lexed
end_is text prefix line (Some state) (Ok last) result is on_line ends answers apart =
    answers apart ∙ ap (end_answer prefix last) (on_line ∙ is.lexed.line_is) ∙ sym (whole_closed text prefix state is.ended is.lexed is.spelled is.short last ends)
end_is text prefix line (Some state) (Err (UnclosedQuote quote_line)) result is on_line ends answers apart =
    answers ∙ sym (whole_unclosed text prefix state is.ended is.lexed is.spelled is.short quote_line ends)
end_is text prefix line (Some state) (Err Memory) result is on_line ends answers apart = absurd (apart answers)

-- an answer to the end of a text is what the text means, unless memory ran out
pub end_meant : (text : List ℕ) (so_far : ReadSoFar) (line : ℕ) (answer : Result (Option OwnedToken) PieceFault) (result : Result MapFile MapFault) → IsReadOf text so_far → IfSome so_far.lexer (λ state. line ≡ state.line) → IsEndOf so_far.lexer answer → IsEndAnswer so_far.prefix line answer result → result ≢ Err fault.Memory → Means text result
end_meant text so_far line answer result is on_line ends answers apart =
    subst (λ (r : Result MapFile MapFault). Means text r) (sym (end_is text so_far.prefix line so_far.lexer answer result is on_line ends answers apart)) (means_meaning text)

-- ---- pieces

-- as much of a piece as is read, and one more byte
pub piece_more : (text piece : List ℕ) (i : ℕ) → i < length piece → (text ++ take i piece) ++ get_or piece i 0 ∷ [] ≡ text ++ take (i + 1) piece
piece_more text piece i inside =
    append_assoc text (take i piece) (get_or piece i 0 ∷ []) ∙ ap (λ (p : List ℕ). text ++ p) (sym (take_more piece i 0 inside))

-- what a byte of a piece makes certain is certain behind the piece
pub piece_certain : (text piece : List ℕ) (i : ℕ) → i < length piece → (found : MapFault) → IsCertain ((text ++ take i piece) ++ get_or piece i 0 ∷ []) found → IsCertain (text ++ piece) found
piece_certain text piece i inside found certain =
    let whole : (text ++ take (i + 1) piece) ++ drop (i + 1) piece ≡ text ++ piece = append_assoc text (take (i + 1) piece) (drop (i + 1) piece) ∙ ap (λ (p : List ℕ). text ++ p) (take-append-drop (i + 1) piece) in
    subst (λ (t : List ℕ). IsCertain t found) whole
    (certain_behind (text ++ take (i + 1) piece) (drop (i + 1) piece) found
    (subst (λ (t : List ℕ). IsCertain t found) (piece_more text piece i inside) certain))

-- a reader that goes on knows of no fault that is certain
pub read_uncertain : (text : List ℕ) (so_far : ReadSoFar) → IsReadOf text so_far → (found : MapFault) → IsCertain text found → ⊥
read_uncertain text so_far is found certain = lexer_uncertain so_far.lexer is.lexed
  where
    lexer_uncertain : (lexer : Option LexingState) → HasLexed text is.ended lexer → ⊥
    lexer_uncertain None lexed = lexed
    lexer_uncertain (Some state) lexed = none_certain text is.ended state lexed so_far.prefix is.spelled is.short found certain

-- ---- readers

-- a text so far that was read on
pub read_answer : (text : List ℕ) (so_far : ReadSoFar) (answer : Result (Unit {0}) MapFault) → IsReadOn text so_far answer → answer ≢ Err fault.Memory → (found : MapFault) → (answer ≡ Err found) ↔ IsCertain text found
read_answer text so_far (Ok _) is apart found = (λ same. absurd cc, λ certain. absurd (read_uncertain text so_far is found certain))
read_answer text so_far (Err one) is apart found =
    let certain : IsCertain text one = is (λ e. apart (ap (λ (f : MapFault). Err f) e)) in (
      λ same. let e : one ≡ found = cc in subst (λ (f : MapFault). IsCertain text f) e certain,
      λ again. ap (λ (f : MapFault). Err f) (one_certain text one found certain again),
    )

-- a text so far of which a fault is certain
pub stopped_answer : (text piece : List ℕ) (one : MapFault) → IsCertain text one → (found : MapFault) → (◌≡◌ {A = Result (Unit {0}) MapFault} (Err one) (Err found)) ↔ IsCertain (text ++ piece) found
stopped_answer text piece one certain found = (
  λ same. let e : one ≡ found = cc in subst (λ (f : MapFault). IsCertain (text ++ piece) f) e (certain_behind text piece one certain),
  λ again. ap (λ (f : MapFault). Err f) (one_certain (text ++ piece) one found (certain_behind text piece one certain) again),
)

-- an offset below the limit
pub below_limit : (lexer : Option LexingState) (offset : ℕ) → IfSome lexer (λ state. offset ≡ state.offset) → offset < text_limit → IfSome lexer (λ state. state.offset < text_limit)
below_limit None offset is below = tt
below_limit (Some state) offset is below = omega (arith, is, below)

-- a reader that has stopped
pub stopped_certain : (text : List ℕ) (reader : Result ReadSoFar MapFault) (stopped : Option MapFault) (so_far : ReadSoFar) (found : MapFault) → reader_of stopped so_far ≡ reader → stopped ≡ Some found → IsReaderOf text reader → IsCertain text found
stopped_certain text reader stopped so_far found view_is stopped_is is =
    subst (λ (s : Option MapFault). IsReaderOf text (reader_of s so_far)) stopped_is (subst (λ (r : Result ReadSoFar MapFault). IsReaderOf text r) (sym view_is) is)

-- a reader that has not
pub reader_reads : (text : List ℕ) (reader : Result ReadSoFar MapFault) (stopped : Option MapFault) (so_far : ReadSoFar) → reader_of stopped so_far ≡ reader → stopped ≡ None → IsReaderOf text reader → IsReadOf text so_far
reader_reads text reader stopped so_far view_is stopped_is is =
    subst (λ (s : Option MapFault). IsReaderOf text (reader_of s so_far)) stopped_is (subst (λ (r : Result ReadSoFar MapFault). IsReaderOf text r) (sym view_is) is)

pub certain_now_text : (text : List ℕ) (found : MapFault) → IsCertain text found → IsFaultText text found
certain_now_text text found certain = certain_now text found certain

-- a map that is answered is valid
pub valid_answer : (text : List ℕ) (answer : Result MapFile MapFault) → (answer ≢ Err fault.Memory → Means text answer) → IfOk answer IsValidMap
valid_answer text (Ok map) means = map_valid text map (means (λ e. cc))
valid_answer text (Err found) means = tt
