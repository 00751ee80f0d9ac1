use Rattle.std.specs.Prelude.{◌≡◌, ℕ, ◌+◌, List, [], Option, Some, None, All, length}
use Rattle.qm_tokens.specs.Lexeme.{line_ends}
use Rattle.qm_tokens.specs.inner.Modes.{Mode, mode_after, ended_by}
use Rattle.qm_pieces.specs.LexingState.{LexingState}

-- Bytes that can be passed as one.

-- a byte that ends no token, and leaves open what is open
pub record KeepsMode (mode : Mode) (byte : ℕ) : Type 0 where
  pub ends_none : (offset : ℕ) → ended_by mode offset byte ≡ None
  pub keeps : (offset line : ℕ) → mode_after mode offset line byte ≡ mode

-- all bytes do; where it is not known what is open there are none
abbrev pub AllKeepMode : Option Mode → List ℕ → Type 0
AllKeepMode None bytes = bytes ≡ []
AllKeepMode (Some mode) bytes = All (KeepsMode mode) bytes

-- such bytes have led from one state to another
abbrev pub AreBytesPassed : Option LexingState → List ℕ → Option LexingState → Type 0
AreBytesPassed None bytes next = next ≡ None
AreBytesPassed (Some state) bytes next =
    All (KeepsMode state.mode) bytes × (next ≡ Some (record { mode = state.mode; offset = state.offset + length bytes; line = state.line + line_ends bytes }))
