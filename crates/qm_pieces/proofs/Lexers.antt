-- What a lexer of a text so far has read, and what a byte or the end of the text does to that.
use Rattle.std.proofs.Common.{◌≡◌, ℕ, ◌+◌, ◌<◌, true, List, [], ◌∷◌, ◌++◌, Option, Some, None, IfSome, is_some, option_map, option_to_list, Result, Ok, Err, IfOk, refl, sym, ap, subst, ◌∙◌, append-nil, arith}
use Rattle.std.proofs.lemmas.Bool.{ne_eqb}
use Rattle.qm_tokens.specs.Lexeme.{Lexeme, line_ends}
use Rattle.qm_tokens.specs.Lexing.{Lexing, IsLexingOf}
use Rattle.qm_tokens.specs.inner.Modes.{Mode, slash, in_word, mode_after, at_end, read}
use Rattle.qm_pieces.specs.declared.owned_token.OwnedToken.{OwnedToken}
use Rattle.qm_pieces.specs.declared.piece_fault.PieceFault.{PieceFault}
use Rattle.qm_pieces.specs.declared.piece_fault.PieceFault.TheVariants.{UnclosedQuote, Memory}
use Rattle.qm_pieces.specs.LexingState.{LexingState, state_behind, token_ended_by}
use Rattle.qm_pieces.specs.TextSoFar.{lexemes_then, IsLexedTo}
use Rattle.qm_pieces.specs.Lexed.{HasLexed}
use Rattle.qm_pieces.specs.inner.OpenToken.{state_of}
use Rattle.qm_pieces.specs.Pushing.{owned_lexeme, owned_lexemes, IsByteTaken, IsBytePushed, end_lexing, IsEndGiven, IsEndOf}
use Rattle.qm_pieces.proofs.TextsSoFar.{lexed_behind}

-- where it is known what is open, a bound of the state is one of its offset
pub known_bound : (mode : Option Mode) (offset lines bound : ℕ) → IfSome (state_of mode offset lines) (λ state. state.offset < bound) → is_some mode ≡ true → offset < bound
known_bound None offset lines bound few known = absurd cc
known_bound (Some mode) offset lines bound few known = few

-- a byte that was taken leads to the next state
pub pushed_is : (mode next : Option Mode) (offset lines byte : ℕ) (token : Option OwnedToken) → IsByteTaken mode offset (lines + 1) byte token next → IsBytePushed (state_of mode offset lines) byte token (state_of next (offset + 1) (lines + line_ends (byte ∷ [])))
pushed_is None next offset lines byte token taken = absurd taken
pushed_is (Some mode) next offset lines byte token taken =
    let on : lines + line_ends (byte ∷ []) + 1 ≡ lines + 1 + line_ends (byte ∷ []) = omega arith in (
      taken.0,
      ap (λ (n : Option Mode). state_of n (offset + 1) (lines + line_ends (byte ∷ []))) taken.1
          ∙ ap (λ (l : ℕ). Some (record { mode = mode_after mode offset (lines + 1) byte; offset = offset + 1; line = l })) on,
    )

-- the end of a text, in the state of a lexer
pub end_of_state : (mode : Option Mode) (offset lines : ℕ) (answer : Result (Option OwnedToken) PieceFault) → IsEndGiven mode offset answer → IsEndOf (state_of mode offset lines) answer
end_of_state None offset lines answer given = given
end_of_state (Some mode) offset lines answer given = given

-- one more byte, with the token that it ends
pub lexed_token : (text : List ℕ) (given : List Lexeme) (state : LexingState) (byte : ℕ) (token : Option OwnedToken) → option_map owned_lexeme token ≡ token_ended_by state byte → IsLexedTo text given state → IsLexedTo (text ++ byte ∷ []) (given ++ owned_lexemes token) (state_behind state byte)
lexed_token text given state byte token is lexed =
    subst (λ (t : Option Lexeme). IsLexedTo (text ++ byte ∷ []) (given ++ option_to_list t) (state_behind state byte)) (sym is) (lexed_behind text given state byte lexed)

-- the same of a lexer
pub has_lexed_behind : (text : List ℕ) (given : List Lexeme) (old new : Option LexingState) (byte : ℕ) (token : Option OwnedToken) → IsBytePushed old byte token new → HasLexed text given old → HasLexed (text ++ byte ∷ []) (given ++ owned_lexemes token) new
has_lexed_behind text given None new byte token pushed lexed = absurd lexed
has_lexed_behind text given (Some state) new byte token pushed lexed =
    subst (λ (n : Option LexingState). HasLexed (text ++ byte ∷ []) (given ++ owned_lexemes token) n) (sym pushed.1) (lexed_token text given state byte token pushed.0 lexed)

-- the text as it is
lexed_whole : (text : List ℕ) (given : List Lexeme) (state : LexingState) → IsLexedTo text given state → IsLexingOf text (lexemes_then given (at_end state.mode state.offset))
unfolding read
lexed_whole text given state lexed =
    subst (λ (t : List ℕ). IsLexingOf t (lexemes_then given (at_end state.mode state.offset))) (append-nil text) (lexed.goes_on [])

-- the end of a text, taken by a lexer
pub lexed_end : (text : List ℕ) (given : List Lexeme) (old : Option LexingState) (answer : Result (Option OwnedToken) PieceFault) → IsEndOf old answer → HasLexed text given old → IfSome (end_lexing answer) (λ last. IsLexingOf text (lexemes_then given last))
lexed_end text given None answer ends lexed = absurd lexed
lexed_end text given (Some state) (Ok token) ends lexed =
    subst (λ (l : Lexing). IsLexingOf text (lexemes_then given l)) ends (lexed_whole text given state lexed)
lexed_end text given (Some state) (Err (UnclosedQuote line)) ends lexed =
    subst (λ (l : Lexing). IsLexingOf text (lexemes_then given l)) ends (lexed_whole text given state lexed)
lexed_end text given (Some state) (Err Memory) ends lexed = tt

-- ---- the open token

-- a token that a byte ends in a mode, whichever the line
pub taken_token : (token : Option OwnedToken) (mode : Option Mode) (m : Mode) (offset line byte : ℕ) (next : Option Mode) → mode ≡ Some m → ((on : ℕ) → IsByteTaken (Some m) offset on byte token next) → IsByteTaken mode offset line byte token next
taken_token token mode m offset line byte next is taken = rw is (taken line)

pub taken_answer : {E : Type 0} (answer : Result (Option OwnedToken) E) (mode : Option Mode) (m : Mode) (offset line byte : ℕ) (next : Option Mode) → mode ≡ Some m → IfOk answer (λ token. (on : ℕ) → IsByteTaken (Some m) offset on byte token next) → IfOk answer (λ token. IsByteTaken mode offset line byte token next)
taken_answer (Ok token) mode m offset line byte next is taken = taken_token token mode m offset line byte next is taken
taken_answer (Err error) mode m offset line byte next is taken = tt

-- a byte that is no `/` follows a first one as it follows any word
slash_token : (token : Option OwnedToken) (start begun offset line byte : ℕ) (next : Option Mode) → (byte ≡ 47 → ⊥) → IsByteTaken (Some (in_word (47 ∷ []) start begun)) offset line byte token next → IsByteTaken (Some (slash start begun)) offset line byte token next
slash_token token start begun offset line byte next other taken =
    (taken.0, taken.1 ∙ ap (λ (m : Mode). Some m) (rw (ne_eqb byte 47 other) refl))

pub slash_answer : {E : Type 0} (answer : Result (Option OwnedToken) E) (bytes : List ℕ) (start line begun on offset byte : ℕ) (next : Option Mode) → bytes ≡ 47 ∷ [] → start ≡ begun → line ≡ on → (byte ≡ 47 → ⊥) → IfOk answer (λ token. (at : ℕ) → IsByteTaken (Some (in_word bytes start line)) offset at byte token next) → IfOk answer (λ token. (at : ℕ) → IsByteTaken (Some (slash begun on)) offset at byte token next)
slash_answer (Ok token) bytes start line begun on offset byte next bytes_are start_is line_is other taken =
    λ at. slash_token token begun on offset at byte next other (rw (bytes_are, start_is, line_is) at (taken at))
slash_answer (Err error) bytes start line begun on offset byte next bytes_are start_is line_is other taken = tt
