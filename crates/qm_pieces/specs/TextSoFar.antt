use Rattle.std.specs.Prelude.{◌≡◌, ℕ, ◌+◌, List, ◌++◌, Contains, length}
use Rattle.qm_tokens.specs.Lexeme.{Lexeme, line_ends}
use Rattle.qm_tokens.specs.Lexing.{Lexing, IsLexingOf}
use Rattle.qm_pieces.specs.LexingState.{LexingState, read_on}

-- A text so far is the beginning of a text, of which more bytes may follow.

-- tokens, and then the rest
abbrev pub lexemes_then : List Lexeme → Lexing → Lexing
lexemes_then lexemes rest = record { lexemes = lexemes ++ rest.lexemes; unclosed_line = rest.unclosed_line }

-- A text so far has ended these tokens, and its lexing stands in this state: whatever follows, the text gives these
-- tokens, and then what the bytes that follow give from there on.
pub record IsLexedTo (text : List ℕ) (ended : List Lexeme) (state : LexingState) : Type 0 where
  pub offset_is : state.offset ≡ length text
  pub line_is : state.line ≡ 1 + line_ends text
  pub goes_on : (more : List ℕ) → IsLexingOf (text ++ more) (lexemes_then ended (read_on state more))

-- a token of a text so far has ended: the text has it, whatever follows
abbrev pub IsEndedToken : List ℕ → Lexeme → Type 0
IsEndedToken text token =
    (more : List ℕ) (lexing : Lexing) → IsLexingOf (text ++ more) lexing → Contains lexing.lexemes token
