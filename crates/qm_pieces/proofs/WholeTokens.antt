-- The tokens that end within a piece, which begins between two tokens.
use Rattle.std.proofs.Common.{◌≡◌, ℕ, ◌+◌, ◌-◌, ◌==◌, ◌<◌, ◌≤◌, List, [], ◌∷◌, ◌++◌, Option, Some, IfSome, Result, Ok, Err, IfOk, ⊎_elim, length, get_or, take, drop, take-add, take-append-drop, take_all, refl, sym, ap, subst, ◌∙◌, append_assoc, append-nil, length-append, add-zero, arith}
use Rattle.std.specs.Prelude.{All}
use Rattle.std.proofs.lemmas.Bool.{cases_lt}
use Rattle.std.proofs.lemmas.List.{take_at, take-take, drop_at, drop-drop, length-drop, length-take, length-take-le, get_or-drop, take_more}
use Rattle.std.proofs.lemmas.List.Elements.{All-head, All-tail}
use Rattle.std.proofs.lemmas.List.Sums.{count_by-le-length}
use Rattle.qm_tokens.specs.Lexeme.{Lexeme, StandsIn, line_ends, quote_length}
use Rattle.qm_tokens.specs.Lexing.{Lexing, IsLexingOf, nothing, lexeme_then}
use Rattle.qm_tokens.specs.Reading.{Reading}
use Rattle.qm_tokens.specs.inner.Modes.{between, read}
use Rattle.qm_tokens.proofs.PieceRuns.{line_ends-append}
use Rattle.qm_grammar.specs.declared.fault.MapFault.{MapFault}
use Rattle.qm_grammar.specs.Symbol.{symbol_of}
use Rattle.qm_grammar.specs.Prefix.{Prefix}
use Rattle.qm_grammar.specs.Faults.{text_limit}
use Rattle.qm_grammar.specs.inner.Machine.{step}
use Rattle.qm_grammar.proofs.Lexings.{one_lexing}
use Rattle.qm_pieces.specs.LexingState.{LexingState, state_between}
use Rattle.qm_pieces.specs.TextSoFar.{lexemes_then, IsLexedTo}
use Rattle.qm_pieces.specs.Shifted.{shifted, shifted_lexing}
use Rattle.qm_pieces.specs.FirstToken.{EndsIn}
use Rattle.qm_pieces.specs.Certain.{IsCertain}
use Rattle.qm_pieces.specs.ReadSoFar.{ReadSoFar, IsReadOf}
use Rattle.qm_pieces.specs.declared.place.Place.{Place}
use Rattle.qm_pieces.specs.inner.OpenToken.{IsPlaceBetween}
use Rattle.qm_pieces.specs.inner.Accepting.{IsRefusedOn, IsReadOn}
use Rattle.qm_pieces.specs.inner.Scanning.{line_within, IsReadBetween, IsScannedInto}
use Rattle.qm_pieces.proofs.BlankEnds.{EndsBefore, piece_ends}
use Rattle.qm_pieces.proofs.ShiftedTexts.{read_shifted}
use Rattle.qm_pieces.proofs.FirstTokens.{token_ends_in, rest_left}
use Rattle.qm_pieces.proofs.TextsSoFar.{prepended}
use Rattle.qm_pieces.proofs.PassedBytes.{LeadsOn, none_lead, line_leads, lexed_on, leads_shifted}
use Rattle.qm_pieces.proofs.Certainty.{refused_certain, certain_behind}
use Rattle.qm_pieces.proofs.ReadersSoFar.{one_more, one_refused, quote_one}

-- a piece that is taken up to an offset, and the next token, which ends within it
module _ (piece : List ℕ) (taken : ℕ) (inside : taken ≤ length piece) (token : Lexeme) (rest : Lexing) (left : read between taken (line_within piece taken) (drop taken piece) ≡ lexeme_then token rest) (within : token.end < length piece) where
  ends : EndsIn between taken (line_within piece taken) (drop taken piece) token
  ends = token_ends_in (drop taken piece) taken (line_within piece taken) token rest left (omega (arith, within, inside, length-drop taken piece))

  next_is : token.end + 1 ≡ taken + length ends.front
  next_is = omega (arith, ends.at_is, ends.is_end)

  front_is : take (token.end + 1) piece ≡ take taken piece ++ ends.front
  front_is =
      ap (λ n. take n piece) next_is
      ∙ take-add taken (length ends.front) piece
      ∙ ap (λ (bytes : List ℕ). take taken piece ++ take (length ends.front) bytes) ends.split
      ∙ ap (λ (bytes : List ℕ). take taken piece ++ bytes) (take_at ends.front ends.after (length ends.front) refl)

  after_is : drop (token.end + 1) piece ≡ ends.after
  after_is =
      ap (λ n. drop n piece) next_is
      ∙ sym (drop-drop (length ends.front) taken piece)
      ∙ ap (drop (length ends.front)) ends.split
      ∙ drop_at ends.front ends.after (length ends.front) refl

  on_is : ends.on ≡ line_within piece (token.end + 1)
  on_is = omega (arith, ends.on_is, ap line_ends front_is, line_ends-append (take taken piece) ends.front)

  -- what is left is read anew behind it
  pub rest_is : rest ≡ read between (token.end + 1) (line_within piece (token.end + 1)) (drop (token.end + 1) piece)
  rest_is =
      rest_left (drop taken piece) taken (line_within piece taken) token rest left ends
      ∙ ap (λ n. read between n ends.on ends.after) ends.is_end
      ∙ ap (λ l. read between (token.end + 1) l ends.after) on_is
      ∙ ap (read between (token.end + 1) (line_within piece (token.end + 1))) (sym after_is)

  -- whatever follows it
  goes_on : (more : List ℕ) → read between taken (line_within piece taken) (ends.front ++ more) ≡ lexeme_then token (read between (token.end + 1) (line_within piece (token.end + 1)) more)
  goes_on more =
      ends.goes_on more
      ∙ ap (λ n. lexeme_then token (read between n ends.on more)) ends.is_end
      ∙ ap (λ l. lexeme_then token (read between (token.end + 1) l more)) on_is

  -- the same where the piece begins at an offset, behind so many line ends
  module _ (offset lines : ℕ) where
    passed : (more : List ℕ) → read between (offset + taken) (lines + line_within piece taken) (ends.front ++ more) ≡ lexeme_then (shifted offset lines token) (read between (offset + (token.end + 1)) (lines + line_within piece (token.end + 1)) more)
    passed more =
        read_shifted offset lines between taken (offset + taken) (line_within piece taken) (lines + line_within piece taken) (ends.front ++ more) refl refl
        ∙ ap (shifted_lexing offset lines) (goes_on more)
        ∙ ap (lexeme_then (shifted offset lines token)) (sym (read_shifted offset lines between (token.end + 1) (offset + (token.end + 1)) (line_within piece (token.end + 1)) (lines + line_within piece (token.end + 1)) more refl refl))

    lexed_next : (text : List ℕ) (given : List Lexeme) → IsLexedTo text given (state_between (offset + taken) (lines + line_within piece taken)) → IsLexedTo (text ++ ends.front) (given ++ shifted offset lines token ∷ []) (state_between (offset + (token.end + 1)) (lines + line_within piece (token.end + 1)))
    lexed_next text given lexed = record {
      offset_is = omega (arith, lexed.offset_is, next_is, length-append text ends.front);
      line_is = omega (arith, lexed.line_is, on_is, ends.on_is, line_ends-append text ends.front);
      goes_on =
          λ more.
          let rest = read between (offset + (token.end + 1)) (lines + line_within piece (token.end + 1)) more in
          let joined : lexemes_then given (read between (offset + taken) (lines + line_within piece taken) (ends.front ++ more)) ≡ lexemes_then (given ++ shifted offset lines token ∷ []) rest = ap (lexemes_then given) (passed more) ∙ prepended given (Some (shifted offset lines token)) rest in
          subst (λ (l : Lexing). IsLexingOf ((text ++ ends.front) ++ more) l) joined
          (subst (λ (t : List ℕ). IsLexingOf t (lexemes_then given (read between (offset + taken) (lines + line_within piece taken) (ends.front ++ more)))) (sym (append_assoc text ends.front more)) (lexed.goes_on (ends.front ++ more)));
    }

    lexed_further : (text : List ℕ) (given : List Lexeme) → IsLexedTo (text ++ take taken piece) given (state_between (offset + taken) (lines + line_within piece taken)) → IsLexedTo (text ++ take (token.end + 1) piece) (given ++ shifted offset lines token ∷ []) (state_between (offset + (token.end + 1)) (lines + line_within piece (token.end + 1)))
    lexed_further text given lexed =
        let state = state_between (offset + (token.end + 1)) (lines + line_within piece (token.end + 1)) in
        subst (λ (t : List ℕ). IsLexedTo t (given ++ shifted offset lines token ∷ []) state)
        (append_assoc text (take taken piece) ends.front ∙ ap (λ (bytes : List ℕ). text ++ bytes) (sym front_is))
        (lexed_next (text ++ take taken piece) given lexed)

    -- a reader of the text so far, where the piece is within the limit
    module _ (text : List ℕ) (prefix : Prefix) (fits : offset + length piece ≤ text_limit) (is : IsReadBetween (text ++ take taken piece) (offset + taken) (lines + line_within piece taken) prefix) where
      pub token_read : (next : Prefix) → step prefix (symbol_of token) ≡ Ok next → IsReadBetween (text ++ take (token.end + 1) piece) (offset + (token.end + 1)) (lines + line_within piece (token.end + 1)) next
      token_read next read =
          let lexed = lexed_further text is.ended is.lexed in
          record {
            short = omega (arith, lexed.offset_is, within, fits);
            ended = is.ended ++ shifted offset lines token ∷ [];
            lexed = lexed;
            spelled = one_more prefix next is.ended (shifted offset lines token) is.spelled read;
          }

      pub token_refused : (found : MapFault) → IsRefusedOn prefix (symbol_of token) (lines + token.line) found → IsCertain (text ++ piece) found
      token_refused found refused =
          let lexed = lexed_further text is.ended is.lexed in
          let state = state_between (offset + (token.end + 1)) (lines + line_within piece (token.end + 1)) in
          let first = take (token.end + 1) piece in
          let others = drop (token.end + 1) piece in
          let certain = refused_certain (text ++ first) (is.ended ++ shifted offset lines token ∷ []) state lexed refused.reason (shifted offset lines token)
          (one_refused prefix refused.reason is.ended (shifted offset lines token) is.spelled refused.refused)
          (omega (arith, within, fits, quote_one token.kind)) in
          let whole : (text ++ first) ++ others ≡ text ++ piece = append_assoc text first others ∙ ap (λ (bytes : List ℕ). text ++ bytes) (take-append-drop (token.end + 1) piece) in
          subst (λ (t : List ℕ). IsCertain t found) whole
          (certain_behind (text ++ first) others found
          (subst (λ (f : MapFault). IsCertain (text ++ first) f) (sym refused.fault_is) certain))

-- a piece that is taken up to an offset, of which no token is left
module _ (piece : List ℕ) (taken : ℕ) (inside : taken ≤ length piece) (left : read between taken (line_within piece taken) (drop taken piece) ≡ nothing) where
  -- up to a line end
  line_taken : (n : ℕ) → n < length (drop taken piece) → get_or (drop taken piece) n 0 ≡ 10 → LeadsOn (state_between taken (line_within piece taken)) between (take (n + 1) (drop taken piece))
  line_taken n within is_end =
      let bytes = drop taken piece in
      let split : take (n + 1) bytes ≡ take n bytes ++ 10 ∷ [] = take_more bytes n 0 within ∙ ap (λ (b : ℕ). take n bytes ++ b ∷ []) is_end in
      let whole : take n bytes ++ 10 ∷ drop (n + 1) bytes ≡ bytes = sym (append_assoc (take n bytes) (10 ∷ []) (drop (n + 1) bytes)) ∙ ap (λ (b : List ℕ). b ++ drop (n + 1) bytes) (sym split) ∙ take-append-drop (n + 1) bytes in
      subst (λ (b : List ℕ). LeadsOn (state_between taken (line_within piece taken)) between b) (sym split)
      (line_leads (take n bytes) (drop (n + 1) bytes) (state_between taken (line_within piece taken)) (ap (read between taken (line_within piece taken)) whole ∙ left))

  module _ (end : ℕ) (further : taken ≤ end) (within : end ≤ length piece) (ends : taken < end → get_or piece (end - 1) 0 ≡ 10) where
    gap_taken : LeadsOn (state_between taken (line_within piece taken)) between (take (end - taken) (drop taken piece))
    gap_taken =
        let bytes = drop taken piece in
        let state = state_between taken (line_within piece taken) in
        ⊎_elim
        (λ some.
        let count : end - taken - 1 + 1 ≡ end - taken = omega (arith, some) in
        let at : taken + (end - taken - 1) ≡ end - 1 = omega (arith, some) in
        let is_end : get_or bytes (end - taken - 1) 0 ≡ 10 = get_or-drop taken piece (end - taken - 1) 0 ∙ ap (λ (i : ℕ). get_or piece i 0) at ∙ ends some in
        subst (λ (n : ℕ). LeadsOn state between (take n bytes)) count (line_taken (end - taken - 1) (omega (arith, some, within, length-drop taken piece)) is_end))
        (λ none.
        let count : 0 ≡ end - taken = omega (arith, none) in
        subst (λ (n : ℕ). LeadsOn state between (take n bytes)) count (none_lead state))
        (cases_lt taken end)

    gap_front : take end piece ≡ take taken piece ++ take (end - taken) (drop taken piece)
    gap_front =
        let whole : end ≡ taken + (end - taken) = omega (arith, further) in
        ap (λ (n : ℕ). take n piece) whole ∙ take-add taken (end - taken) piece

    -- the same where the piece begins at an offset, behind so many line ends
    module _ (offset lines : ℕ) where
      gap_lexed : (text : List ℕ) (given : List Lexeme) → IsLexedTo (text ++ take taken piece) given (state_between (offset + taken) (lines + line_within piece taken)) → IsLexedTo (text ++ take end piece) given (state_between (offset + end) (lines + line_within piece end))
      gap_lexed text given lexed =
          let bytes = take (end - taken) (drop taken piece) in
          let state = state_between (offset + taken) (lines + line_within piece taken) in
          let leads : LeadsOn state between bytes = leads_shifted offset lines taken (line_within piece taken) bytes gap_taken in
          let size : length bytes ≡ end - taken = length-take-le (end - taken) (drop taken piece) (omega (arith, within, length-drop taken piece)) in
          let at : leads.at ≡ offset + end = omega (arith, leads.at_is, size, further) in
          let on : leads.on ≡ lines + line_within piece end = omega (arith, leads.on_is, ap line_ends gap_front, line_ends-append (take taken piece) bytes) in
          let whole : (text ++ take taken piece) ++ bytes ≡ text ++ take end piece = append_assoc text (take taken piece) bytes ∙ ap (λ (b : List ℕ). text ++ b) (sym gap_front) in
          subst (λ (t : List ℕ). IsLexedTo t given (state_between (offset + end) (lines + line_within piece end))) whole
          (subst (λ (l : ℕ). IsLexedTo ((text ++ take taken piece) ++ bytes) given (state_between (offset + end) l)) on
          (subst (λ (o : ℕ). IsLexedTo ((text ++ take taken piece) ++ bytes) given (state_between o leads.on)) at
          (lexed_on state between (text ++ take taken piece) bytes given leads lexed)))

      pub gap_read : (text : List ℕ) (prefix : Prefix) → offset + length piece ≤ text_limit → IsReadBetween (text ++ take taken piece) (offset + taken) (lines + line_within piece taken) prefix → IsReadBetween (text ++ take end piece) (offset + end) (lines + line_within piece end) prefix
      gap_read text prefix fits is =
          let lexed = gap_lexed text is.ended is.lexed in
          record { short = omega (arith, lexed.offset_is, within, fits); ended = is.ended; lexed = lexed; spelled = is.spelled }

-- ---- the loop over them

-- so many bytes of a piece were taken, behind so many line ends; they have led from one prefix to another, and this is left
pub record IsScanning (piece : List ℕ) (lines : ℕ) (first : Prefix) (taken : ℕ) (prefix : Prefix) (reading : Reading) : Type 0 where
  pub inside : taken ≤ length piece
  pub text_is : reading.text ≡ piece
  pub left : reading.left ≡ read between taken (line_within piece taken) (drop taken piece)
  pub stand : All (StandsIn piece) reading.left.lexemes
  pub end : All (EndsBefore (length piece)) reading.left.lexemes
  pub is_read : (text : List ℕ) (offset : ℕ) → IsReadBetween text offset (lines + 1) first → offset + length piece ≤ text_limit → IsReadBetween (text ++ take taken piece) (offset + taken) (lines + line_within piece taken) prefix

pub scan_begun : (piece : List ℕ) (lines : ℕ) (first : Prefix) (reading : Reading) → (0 < length piece → get_or piece (length piece - 1) 0 ≤ 32) → reading.text ≡ piece → IsLexingOf piece reading.left → All (StandsIn piece) reading.left.lexemes → IsScanning piece lines first 0 first reading
scan_begun piece lines first reading blank text_is lexing stand = record {
  inside = omega arith;
  text_is = text_is;
  left = one_lexing piece reading.left lexing;
  stand = stand;
  end = subst (λ (l : Lexing). All (EndsBefore (length piece)) l.lexemes) (sym (one_lexing piece reading.left lexing)) (piece_ends piece blank);
  is_read =
      λ text offset is fits.
      subst (λ (t : List ℕ). IsReadBetween t (offset + 0) (lines + 1) first) (sym (append-nil text))
      (subst (λ (n : ℕ). IsReadBetween text n (lines + 1) first) (sym (add-zero offset)) is);
}

module _ (piece : List ℕ) (lines : ℕ) (first : Prefix) (taken : ℕ) (prefix : Prefix) (reading : Reading) (s : IsScanning piece lines first taken prefix reading) (token : Lexeme) (rest : Lexing) (next_is : reading.left ≡ lexeme_then token rest) where
  here : read between taken (line_within piece taken) (drop taken piece) ≡ lexeme_then token rest
  here = sym s.left ∙ next_is

  stands : All (StandsIn piece) (token ∷ rest.lexemes)
  stands = subst (λ (l : Lexing). All (StandsIn piece) l.lexemes) next_is s.stand

  -- the token is on one of the lines of the piece
  pub scan_line : token.line ≤ 1 + length piece
  scan_line =
      let its : StandsIn piece token = All-head (StandsIn piece) token rest.lexemes stands in
      let front = take (token.start - quote_length token.kind) piece in
      omega (arith, its.line_is, count_by-le-length (λ byte. byte == 10) front, length-take (token.start - quote_length token.kind) piece)

  ends_all : All (EndsBefore (length piece)) (token ∷ rest.lexemes)
  ends_all = subst (λ (l : Lexing). All (EndsBefore (length piece)) l.lexemes) next_is s.end

  -- and ends within it
  pub scan_within : token.end < length piece
  scan_within = All-head (EndsBefore (length piece)) token rest.lexemes ends_all

  pub scan_next : (new : Reading) (next : Prefix) → new.text ≡ reading.text → new.left ≡ rest → step prefix (symbol_of token) ≡ Ok next → IsScanning piece lines first (token.end + 1) next new
  scan_next new next same left_is read = record {
    inside = omega (arith, scan_within);
    text_is = same ∙ s.text_is;
    left = left_is ∙ rest_is piece taken s.inside token rest here scan_within;
    stand = subst (λ (l : Lexing). All (StandsIn piece) l.lexemes) (sym left_is) (All-tail (StandsIn piece) token rest.lexemes stands);
    end = subst (λ (l : Lexing). All (EndsBefore (length piece)) l.lexemes) (sym left_is) (All-tail (EndsBefore (length piece)) token rest.lexemes ends_all);
    is_read =
        λ text offset is fits.
        token_read piece taken s.inside token rest here scan_within offset lines text prefix fits (s.is_read text offset is fits) next read;
  }

  pub scan_refused : (found : MapFault) → IsRefusedOn prefix (symbol_of token) (lines + token.line) found → (text : List ℕ) (offset : ℕ) → IsReadBetween text offset (lines + 1) first → offset + length piece ≤ text_limit → IsCertain (text ++ piece) found
  scan_refused found refused text offset is fits =
      token_refused piece taken s.inside token rest here scan_within offset lines text prefix fits (s.is_read text offset is fits) found refused

-- where no token is left, the piece can be taken up to a line end
pub scan_ended : (piece : List ℕ) (lines : ℕ) (first : Prefix) (taken : ℕ) (prefix : Prefix) (reading : Reading) → IsScanning piece lines first taken prefix reading → reading.left ≡ nothing → (end : ℕ) → taken ≤ end → end ≤ length piece → (taken < end → get_or piece (end - 1) 0 ≡ 10) → (text : List ℕ) (offset : ℕ) → IsReadBetween text offset (lines + 1) first → offset + length piece ≤ text_limit → IsReadBetween (text ++ take end piece) (offset + end) (lines + line_within piece end) prefix
scan_ended piece lines first taken prefix reading s none end further within ends text offset is fits =
    gap_read piece taken s.inside (sym s.left ∙ none) end further within ends offset lines text prefix fits (s.is_read text offset is fits)

-- what was read of the first bytes of a piece was read of the piece
pub scanned_of_first : (text piece : List ℕ) (count offset lines : ℕ) (prefix : Prefix) (answer : Result ℕ MapFault) → IfOk answer (λ taken. taken ≤ length (take count piece)) → IsScannedInto text (take count piece) offset lines prefix answer → IsScannedInto text piece offset lines prefix answer
scanned_of_first text piece count offset lines prefix (Ok taken) within is =
    let same : take taken (take count piece) ≡ take taken piece = take-take taken count piece (omega (arith, within, length-take count piece)) in
    subst (λ (bytes : List ℕ). IsReadBetween (text ++ bytes) (offset + taken) (lines + (1 + line_ends bytes)) prefix) same is
scanned_of_first text piece count offset lines prefix (Err found) within is =
    λ other.
    let first = take count piece in
    let others = drop count piece in
    let whole : (text ++ first) ++ others ≡ text ++ piece = append_assoc text first others ∙ ap (λ (bytes : List ℕ). text ++ bytes) (take-append-drop count piece) in
    subst (λ (t : List ℕ). IsCertain t found) whole (certain_behind (text ++ first) others found (is other))

-- ---- a lexer between two tokens

module _ (place : Place) (lexer : Option LexingState) (stands : IsPlaceBetween place lexer) where
  pub read_at_place : (text : List ℕ) (prefix : Prefix) → IsReadOf text (record { lexer = lexer; prefix = prefix }) → IsReadBetween text place.offset (place.line_ends + 1) prefix
  read_at_place text prefix is =
      subst (λ (s : Option LexingState). IsReadOf text (record { lexer = s; prefix = prefix })) stands.state_is is

  pub bound_at_place : (bound : ℕ) → IfSome lexer (λ state. state.offset ≤ bound) → place.offset ≤ bound
  bound_at_place bound within =
      subst (λ (s : Option LexingState). IfSome s (λ state. state.offset ≤ bound)) stands.state_is within

  pub place_bound : (bound : ℕ) → place.offset ≤ bound → IfSome lexer (λ state. state.offset ≤ bound)
  place_bound bound within =
      subst (λ (s : Option LexingState). IfSome s (λ state. state.offset ≤ bound)) (sym stands.state_is) within

  -- it has gone on behind so many bytes of a piece
  pub read_to_place : (text piece : List ℕ) (taken offset lines : ℕ) (prefix : Prefix) → taken ≤ length piece → place.offset ≡ offset + length (take taken piece) → place.line_ends ≡ lines + line_ends (take taken piece) → IsReadBetween (text ++ take taken piece) (offset + taken) (lines + line_within piece taken) prefix → IsReadOf (text ++ take taken piece) (record { lexer = lexer; prefix = prefix })
  read_to_place text piece taken offset lines prefix inside at_is on_is is =
      let at : offset + taken ≡ place.offset = omega (arith, at_is, inside, length-take taken piece) in
      let on : lines + line_within piece taken ≡ place.line_ends + 1 = omega (arith, on_is) in
      subst (λ (s : Option LexingState). IsReadOf (text ++ take taken piece) (record { lexer = s; prefix = prefix })) (sym stands.state_is)
      (subst (λ (l : ℕ). IsReadBetween (text ++ take taken piece) place.offset l prefix) on
      (subst (λ (n : ℕ). IsReadBetween (text ++ take taken piece) n (lines + line_within piece taken) prefix) at is))

-- ---- a piece in parts

-- what follows the first bytes of a piece is the rest of it
pub read_rest : (text piece : List ℕ) (taken : ℕ) (so_far : ReadSoFar) (answer : Result (Unit {0}) MapFault) → IsReadOn ((text ++ take taken piece) ++ take (length piece - taken) (drop taken piece)) so_far answer → IsReadOn (text ++ piece) so_far answer
read_rest text piece taken so_far answer is =
    let all : take (length piece - taken) (drop taken piece) ≡ drop taken piece = take_all (length piece - taken) (drop taken piece) (omega (arith, length-drop taken piece)) in
    subst (λ (t : List ℕ). IsReadOn t so_far answer)
    (append_assoc text (take taken piece) (take (length piece - taken) (drop taken piece))
    ∙ ap (λ (bytes : List ℕ). text ++ (take taken piece ++ bytes)) all
    ∙ ap (λ (bytes : List ℕ). text ++ bytes) (take-append-drop taken piece)) is

-- as much of a piece as is taken, and as much of its rest
pub piece_further : (text piece : List ℕ) (taken count : ℕ) → (text ++ take taken piece) ++ take count (take (length piece - taken) (drop taken piece)) ≡ text ++ take (taken + count) piece
piece_further text piece taken count =
    let all : take (length piece - taken) (drop taken piece) ≡ drop taken piece = take_all (length piece - taken) (drop taken piece) (omega (arith, length-drop taken piece)) in
    append_assoc text (take taken piece) (take count (take (length piece - taken) (drop taken piece)))
    ∙ ap (λ (bytes : List ℕ). text ++ (take taken piece ++ take count bytes)) all
    ∙ ap (λ (bytes : List ℕ). text ++ bytes) (sym (take-add taken count piece))
