use Rattle.std.specs.Prelude.{◌≡◌, ℕ, ◌+◌, ◌≤◌, List, Option, Some, None}
use Rattle.qm_tokens.specs.inner.Modes.{Mode, between, slash, in_comment, in_word, in_quote}
use Rattle.qm_pieces.specs.declared.open_token.OpenPart.{OpenPart}
use Rattle.qm_pieces.specs.declared.open_token.OpenPart.TheVariants as part
use Rattle.qm_pieces.specs.declared.open_token.OpenToken.{OpenToken}
use Rattle.qm_pieces.specs.declared.place.Place.{Place}
use Rattle.qm_pieces.specs.LexingState.{LexingState, state_between}

-- What the fields of a lexer say.

-- the mode in which this is open, with the bytes, the offset and the line of the open token
abbrev pub mode_with : OpenPart → List ℕ → ℕ → ℕ → Option Mode
mode_with part.Nothing bytes start line = Some between
mode_with part.Slash bytes start line = Some (slash start line)
mode_with part.Comment bytes start line = Some in_comment
mode_with part.Word bytes start line = Some (in_word bytes start line)
mode_with part.Quote bytes start line = Some (in_quote bytes start line)
mode_with part.Unknown bytes start line = None

-- the mode of an open token
abbrev pub mode_of : OpenToken → Option Mode
mode_of token = mode_with token.part token.bytes.items token.start token.line

-- the state in a mode, behind so many bytes and line ends
abbrev pub state_of : Option Mode → ℕ → ℕ → Option LexingState
state_of None offset lines = None
state_of (Some mode) offset lines = Some (record { mode = mode; offset = offset; line = lines + 1 })

-- a lexer stands at this place between two tokens
pub record IsPlaceBetween (place : Place) (state : Option LexingState) : Type 0 where
  pub state_is : state ≡ Some (state_between place.offset (place.line_ends + 1))
  pub few : place.line_ends ≤ place.offset
