use Rattle.std.specs.Prelude.{◌≡◌, ℕ, ◌+◌, List, ◌++◌, length}
use Rattle.qm_tokens.specs.Lexeme.{Lexeme, line_ends}
use Rattle.qm_tokens.specs.Lexing.{lexeme_then}
use Rattle.qm_tokens.specs.inner.Modes.{Mode, between, read}

-- The first token of bytes that begin in a mode, at an offset and on a line, ends in them, with or before the last byte of
-- their front: behind that they are read anew, whatever follows.
pub record EndsIn (mode : Mode) (offset line : ℕ) (bytes : List ℕ) (token : Lexeme) : Type 0 where
  pub front : List ℕ
  pub after : List ℕ
  pub split : bytes ≡ front ++ after
  pub at : ℕ
  pub at_is : at ≡ offset + length front
  pub on : ℕ
  pub on_is : on ≡ line + line_ends front
  pub is_end : at ≡ token.end + 1
  pub goes_on : (more : List ℕ) → read mode offset line (front ++ more) ≡ lexeme_then token (read between at on more)
