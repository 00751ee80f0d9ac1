use Rattle.std.specs.Prelude.{◌≡◌, ℕ, ◌+◌, List, [], ◌∷◌, Option, Some, None, length}
use Rattle.qm_tokens.specs.declared.token.TokenKind.TheVariants.{Word, Quoted}
use Rattle.qm_tokens.specs.declared.token.LexFault.{LexFault}
use Rattle.qm_tokens.specs.declared.token.LexFault.TheVariants.{UnclosedQuote}
use Rattle.qm_tokens.specs.Lexeme.{Lexeme, line_ends}
use Rattle.qm_tokens.specs.Piece.{TextPiece, word, quoted, unclosed, bytes_of_piece, ArePiecesOf}

-- what a text gives: its lexemes in order, and the line of a quote that is not closed, if there is one
pub record Lexing : Type 0 where
  pub lexemes : List Lexeme
  pub unclosed_line : Option ℕ

-- a text without a token
abbrev pub nothing : Lexing
nothing = record { lexemes = []; unclosed_line = None }

-- a text without a token, but with a quote on this line that is not closed
abbrev pub unclosed_on : ℕ → Lexing
unclosed_on line = record { lexemes = []; unclosed_line = Some line }

-- a lexeme and then the rest
abbrev pub lexeme_then : Lexeme → Lexing → Lexing
lexeme_then lexeme rest = record { lexemes = lexeme ∷ rest.lexemes; unclosed_line = rest.unclosed_line }

-- a lexeme, if there is one, and then the rest
abbrev pub prepend : Option Lexeme → Lexing → Lexing
prepend None rest = rest
prepend (Some lexeme) rest = lexeme_then lexeme rest

-- the lexeme of a piece that begins at an offset, on a line
abbrev pub lexeme_at : ℕ → ℕ → TextPiece → Option Lexeme
lexeme_at offset line (word bytes) =
    Some (record { kind = Word; bytes = bytes; start = offset; end = offset + length bytes; line = line })
lexeme_at offset line (quoted bytes) =
    Some (record { kind = Quoted; bytes = bytes; start = offset + 1; end = offset + 1 + length bytes; line = line })
lexeme_at offset line _ = None

-- what pieces give, the first of which begins at an offset, on a line
abbrev pub lexing_from : ℕ → ℕ → List TextPiece → Lexing
lexing_from offset line [] = nothing
lexing_from offset line (unclosed _ ∷ _) = unclosed_on line
lexing_from offset line (piece ∷ pieces) =
    prepend (lexeme_at offset line piece) (lexing_from (offset + length (bytes_of_piece piece)) (line + line_ends (bytes_of_piece piece)) pieces)

-- the text is made of pieces that give these lexemes and this quote; lines count from 1
abbrev pub IsLexingOf : List ℕ → Lexing → Type 0
IsLexingOf text lexing = (pieces : List TextPiece) × ArePiecesOf text pieces × (lexing ≡ lexing_from 0 1 pieces)

-- the line that a fault names
abbrev pub fault_line : LexFault → ℕ
fault_line (UnclosedQuote line) = line
