use Rattle.std.specs.Prelude.{ℕ, ◌+◌, ◌==◌, nat_le, if◌then◌else◌, List, [], ◌∷◌, ◌++◌, Option, Some, None}
use Rattle.qm_tokens.specs.declared.token.TokenKind.TheVariants.{Word, Quoted}
use Rattle.qm_tokens.specs.Lexeme.{Lexeme, line_ends}
use Rattle.qm_tokens.specs.Lexing.{Lexing, nothing, unclosed_on, lexeme_then, prepend}

-- where a reader of single bytes stands: between tokens, behind a `/` that may open a comment or a word, in a
-- comment, or in a token of which it has these bytes, their offset and their line
pub data Mode : Type 0 where
  between : Mode
  slash : ℕ → ℕ → Mode
  in_comment : Mode
  in_word : List ℕ → ℕ → ℕ → Mode
  in_quote : List ℕ → ℕ → ℕ → Mode

-- the mode behind a byte at an offset, on a line
abbrev pub mode_after : Mode → ℕ → ℕ → ℕ → Mode
mode_after between offset line byte =
    if nat_le byte 32 then between
    else (if byte == 34 then in_quote [] (offset + 1) line
    else (if byte == 47 then slash offset line
    else in_word (byte ∷ []) offset line))
mode_after (slash start line) offset _ byte =
    if nat_le byte 32 then between
    else (if byte == 47 then in_comment
    else in_word (47 ∷ byte ∷ []) start line)
mode_after in_comment offset _ byte = if byte == 10 then between else in_comment
mode_after (in_word bytes start line) offset _ byte =
    if nat_le byte 32 then between else in_word (bytes ++ byte ∷ []) start line
mode_after (in_quote bytes start line) offset _ byte =
    if byte == 34 then between else in_quote (bytes ++ byte ∷ []) start line

-- the word that ends before an offset
abbrev pub word_before : ℕ → List ℕ → ℕ → ℕ → Lexeme
word_before offset bytes start line =
    record { kind = Word; bytes = bytes; start = start; end = offset; line = line }

-- the quoted token whose closing quote is at an offset
abbrev pub quoted_before : ℕ → List ℕ → ℕ → ℕ → Lexeme
quoted_before offset bytes start line =
    record { kind = Quoted; bytes = bytes; start = start; end = offset; line = line }

-- the token that ends before a byte at an offset, or with it
abbrev pub ended_by : Mode → ℕ → ℕ → Option Lexeme
ended_by (slash start line) offset byte =
    if nat_le byte 32 then Some (word_before offset (47 ∷ []) start line) else None
ended_by (in_word bytes start line) offset byte =
    if nat_le byte 32 then Some (word_before offset bytes start line) else None
ended_by (in_quote bytes start line) offset byte =
    if byte == 34 then Some (quoted_before offset bytes start line) else None
ended_by _ offset byte = None

-- what the end of the text gives
abbrev pub at_end : Mode → ℕ → Lexing
at_end (slash start line) offset = lexeme_then (word_before offset (47 ∷ []) start line) nothing
at_end (in_word bytes start line) offset = lexeme_then (word_before offset bytes start line) nothing
at_end (in_quote bytes start line) offset = unclosed_on line
at_end _ offset = nothing

-- what the bytes give that follow at an offset, on a line
unfoldable pub read : Mode → ℕ → ℕ → List ℕ → Lexing
read mode offset line [] = at_end mode offset
read mode offset line (byte ∷ bytes) =
    prepend (ended_by mode offset byte) (read (mode_after mode offset line byte) (offset + 1) (line + line_ends (byte ∷ [])) bytes)
