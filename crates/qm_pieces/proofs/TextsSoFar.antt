-- What a text so far gives, and what one more byte does to that.
use Rattle.std.proofs.Common.{◌≡◌, ℕ, List, [], ◌∷◌, ◌++◌, Option, Some, None, option_to_list, refl, sym, ap, subst, append_assoc, append-nil, length-append, arith}
use Rattle.qm_tokens.specs.Lexeme.{Lexeme}
use Rattle.qm_tokens.specs.Lexing.{Lexing, IsLexingOf, prepend}
use Rattle.qm_tokens.specs.inner.Modes.{read}
use Rattle.qm_tokens.proofs.PieceRuns.{line_ends-append}
use Rattle.qm_grammar.proofs.Lexings.{read_lexing}
use Rattle.qm_pieces.specs.LexingState.{LexingState, state_at_start, state_behind, token_ended_by, read_on}
use Rattle.qm_pieces.specs.TextSoFar.{lexemes_then, IsLexedTo}

-- before the first byte
pub lexed_at_start : IsLexedTo [] [] state_at_start
lexed_at_start = record { offset_is = refl; line_is = refl; goes_on = λ more. read_lexing more }

-- one more token that has ended
pub prepended : (given : List Lexeme) (token : Option Lexeme) (rest : Lexing) → lexemes_then given (prepend token rest) ≡ lexemes_then (given ++ option_to_list token) rest
prepended given None rest =
    ap (λ (l : List Lexeme). lexemes_then l rest) (sym (append-nil given))
prepended given (Some token) rest =
    let joined : given ++ (token ∷ rest.lexemes) ≡ (given ++ token ∷ []) ++ rest.lexemes = sym (append_assoc given (token ∷ []) rest.lexemes) in
    ap (λ (l : List Lexeme). record { lexemes = l; unclosed_line = rest.unclosed_line }) joined

-- one more byte
pub lexed_behind : (text : List ℕ) (given : List Lexeme) (state : LexingState) (byte : ℕ) → IsLexedTo text given state → IsLexedTo (text ++ byte ∷ []) (given ++ option_to_list (token_ended_by state byte)) (state_behind state byte)
unfolding read
lexed_behind text given state byte lexed =
    record {
      offset_is = omega (arith, lexed.offset_is, length-append text (byte ∷ []));
      line_is = omega (arith, lexed.line_is, line_ends-append text (byte ∷ []));
      goes_on =
          λ more.
          let rest = read_on (state_behind state byte) more in
          subst (λ (l : Lexing). IsLexingOf ((text ++ byte ∷ []) ++ more) l) (prepended given (token_ended_by state byte) rest)
          (subst (λ (t : List ℕ). IsLexingOf t (lexemes_then given (prepend (token_ended_by state byte) rest))) (sym (append_assoc text (byte ∷ []) more)) (lexed.goes_on (byte ∷ more)));
    }
