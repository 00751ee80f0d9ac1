use Rattle.std.specs.Prelude.{◌≡◌, ◌≤◌, ℕ, List, [], Option, Some, None, Result, Ok, Err, length}
use Rattle.qm_tokens.specs.Lexeme.{Lexeme}
use Rattle.qm_grammar.specs.declared.fault.MapFault.{MapFault}
use Rattle.qm_grammar.specs.Prefix.{Prefix, between_entities}
use Rattle.qm_grammar.specs.Faults.{text_limit}
use Rattle.qm_grammar.specs.inner.Machine.{steps}
use Rattle.qm_pieces.specs.LexingState.{LexingState}
use Rattle.qm_pieces.specs.Lexed.{HasLexed}
use Rattle.qm_pieces.specs.Certain.{IsCertain}

-- what was read of a text so far: where its lexing stands, and what the tokens that have ended have spelled
pub record ReadSoFar : Type 0 where
  pub lexer : Option LexingState
  pub prefix : Prefix

-- this was read of a text so far that is within the limit, and of which no token that has ended is refused
pub record IsReadOf (text : List ℕ) (so_far : ReadSoFar) : Type 0 where
  pub short : length text ≤ text_limit
  pub ended : List Lexeme
  pub lexed : HasLexed text ended so_far.lexer
  pub spelled : steps (between_entities []) ended ≡ Ok so_far.prefix

-- a reader of a text so far: it has read the text, or has found a fault that is certain
abbrev pub IsReaderOf : List ℕ → Result ReadSoFar MapFault → Type 0
IsReaderOf text (Ok so_far) = IsReadOf text so_far
IsReaderOf text (Err fault) = IsCertain text fault

-- a reader is one of what it has read, unless it has stopped at a fault
abbrev pub reader_of : Option MapFault → ReadSoFar → Result ReadSoFar MapFault
reader_of None so_far = Ok so_far
reader_of (Some fault) so_far = Err fault

-- what tokens have spelled, before the first token too
abbrev pub prefix_so_far : Option Prefix → Prefix
prefix_so_far None = between_entities []
prefix_so_far (Some prefix) = prefix
