use Rattle.std.specs.Prelude.{◌≢◌, ℕ, ◌+◌, List, ◌++◌, Some, Result, Ok, Err, take}
use Rattle.qm_tokens.specs.Lexeme.{line_ends}
use Rattle.qm_grammar.specs.declared.fault.MapFault.{MapFault}
use Rattle.qm_grammar.specs.declared.fault.MapFault.TheVariants as fault
use Rattle.qm_grammar.specs.Prefix.{Prefix}
use Rattle.qm_pieces.specs.LexingState.{state_between}
use Rattle.qm_pieces.specs.Certain.{IsCertain}
use Rattle.qm_pieces.specs.ReadSoFar.{ReadSoFar, IsReadOf}

-- How far a piece of a text was read.

-- the line behind so many bytes of a piece whose lines count from 1
abbrev pub line_within : List ℕ → ℕ → ℕ
line_within piece taken = 1 + line_ends (take taken piece)

-- a text so far was read, and it ends between two tokens, at an offset and on a line
abbrev pub IsReadBetween : List ℕ → ℕ → ℕ → Prefix → Type 0
IsReadBetween text offset line prefix =
    IsReadOf text (record { lexer = Some (state_between offset line); prefix = prefix })

-- behind a text so far so many bytes of a piece were read, or it shows a fault that is certain, or memory ran out
abbrev pub IsReadInto : List ℕ → List ℕ → ReadSoFar → Result ℕ MapFault → Type 0
IsReadInto text piece so_far (Ok taken) = IsReadOf (text ++ take taken piece) so_far
IsReadInto text piece so_far (Err found) = found ≢ fault.Memory → IsCertain (text ++ piece) found

-- the same of a piece that begins between two tokens, at an offset and behind so many line ends, and is left between two
abbrev pub IsScannedInto : List ℕ → List ℕ → ℕ → ℕ → Prefix → Result ℕ MapFault → Type 0
IsScannedInto text piece offset lines prefix (Ok taken) =
    IsReadBetween (text ++ take taken piece) (offset + taken) (lines + line_within piece taken) prefix
IsScannedInto text piece offset lines prefix (Err found) = found ≢ fault.Memory → IsCertain (text ++ piece) found
