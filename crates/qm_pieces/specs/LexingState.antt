use Rattle.std.specs.Prelude.{ℕ, ◌+◌, List, [], ◌∷◌, Option}
use Rattle.qm_tokens.specs.Lexeme.{Lexeme, line_ends}
use Rattle.qm_tokens.specs.Lexing.{Lexing}
use Rattle.qm_tokens.specs.inner.Modes.{Mode, between, mode_after, ended_by, read}

-- where the lexing of a text so far stands: what is open in it, how many bytes it has, and the line behind them
pub record LexingState : Type 0 where
  pub mode : Mode
  pub offset : ℕ
  pub line : ℕ

-- the state behind one more byte
abbrev pub state_behind : LexingState → ℕ → LexingState
state_behind state byte = record {
  mode = mode_after state.mode state.offset state.line byte;
  offset = state.offset + 1;
  line = state.line + line_ends (byte ∷ []);
}

-- the token that one more byte ends, if it ends one
abbrev pub token_ended_by : LexingState → ℕ → Option Lexeme
token_ended_by state byte = ended_by state.mode state.offset byte

-- what further bytes give
abbrev pub read_on : LexingState → List ℕ → Lexing
read_on state more = read state.mode state.offset state.line more

-- the state between two tokens
abbrev pub state_between : ℕ → ℕ → LexingState
state_between offset line = record { mode = between; offset = offset; line = line }

-- before the first byte
abbrev pub state_at_start : LexingState
state_at_start = state_between 0 1
