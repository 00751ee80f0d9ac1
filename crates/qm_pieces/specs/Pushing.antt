use Rattle.std.specs.Prelude.{◌≡◌, ℕ, List, Option, Some, None, Result, Ok, Err, option_map, option_to_list}
use Rattle.qm_tokens.specs.Lexeme.{Lexeme}
use Rattle.qm_tokens.specs.Lexing.{Lexing, unclosed_on}
use Rattle.qm_tokens.specs.inner.Modes.{Mode, mode_after, ended_by, at_end}
use Rattle.qm_pieces.specs.declared.owned_token.OwnedToken.{OwnedToken}
use Rattle.qm_pieces.specs.declared.piece_fault.PieceFault.{PieceFault}
use Rattle.qm_pieces.specs.declared.piece_fault.PieceFault.TheVariants.{UnclosedQuote, Memory}
use Rattle.qm_pieces.specs.LexingState.{LexingState, state_behind, token_ended_by}

-- What a byte, and the end of a text, do to a lexer.

-- a token that owns its bytes, as a lexeme
abbrev pub owned_lexeme : OwnedToken → Lexeme
owned_lexeme token =
    record { kind = token.kind; bytes = token.text; start = token.start; end = token.end; line = token.line }

-- a token that owns its bytes, if there is one, as a list of lexemes
abbrev pub owned_lexemes : Option OwnedToken → List Lexeme
owned_lexemes token = option_to_list (option_map owned_lexeme token)

-- a byte at an offset, on a line, has ended the token that it should, and led from one mode to the next
abbrev pub IsByteTaken : Option Mode → ℕ → ℕ → ℕ → Option OwnedToken → Option Mode → Type 0
IsByteTaken None offset line byte token next = ⊥
IsByteTaken (Some mode) offset line byte token next =
    (option_map owned_lexeme token ≡ ended_by mode offset byte) × (next ≡ Some (mode_after mode offset line byte))

-- a byte has ended the token that it should, and led from one state to the next
abbrev pub IsBytePushed : Option LexingState → ℕ → Option OwnedToken → Option LexingState → Type 0
IsBytePushed None byte token next = ⊥
IsBytePushed (Some state) byte token next =
    (option_map owned_lexeme token ≡ token_ended_by state byte) × (next ≡ Some (state_behind state byte))

-- what the end of a text gives; where memory ran out it is not known
abbrev pub end_lexing : Result (Option OwnedToken) PieceFault → Option Lexing
end_lexing (Ok token) = Some (record { lexemes = owned_lexemes token; unclosed_line = None })
end_lexing (Err (UnclosedQuote line)) = Some (unclosed_on line)
end_lexing (Err Memory) = None

-- the end of a text at an offset gives what it should; where memory runs out nothing is said
abbrev pub IsEndGiven : Option Mode → ℕ → Result (Option OwnedToken) PieceFault → Type 0
IsEndGiven None offset answer = answer ≡ Err Memory
IsEndGiven (Some mode) offset (Err Memory) = Unit {0}
IsEndGiven (Some mode) offset (Ok token) =
    at_end mode offset ≡ record { lexemes = owned_lexemes token; unclosed_line = None }
IsEndGiven (Some mode) offset (Err (UnclosedQuote line)) = at_end mode offset ≡ unclosed_on line

-- the same of a state
abbrev pub IsEndOf : Option LexingState → Result (Option OwnedToken) PieceFault → Type 0
IsEndOf None answer = answer ≡ Err Memory
IsEndOf (Some state) answer = IsEndGiven (Some state.mode) state.offset answer
