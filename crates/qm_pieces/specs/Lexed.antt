use Rattle.std.specs.Prelude.{ℕ, List, Option, Some, None}
use Rattle.qm_tokens.specs.Lexeme.{Lexeme}
use Rattle.qm_pieces.specs.LexingState.{LexingState}
use Rattle.qm_pieces.specs.TextSoFar.{IsLexedTo}

-- a lexer of a text so far, which has ended these tokens; it has no state once memory ran out
abbrev pub HasLexed : List ℕ → List Lexeme → Option LexingState → Type 0
HasLexed text ended None = ⊥
HasLexed text ended (Some state) = IsLexedTo text ended state
