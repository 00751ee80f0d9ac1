use Rattle.std.specs.Prelude.{ℕ, List, [], ◌∷◌, ◌++◌, flat_map}
use Rattle.qm_tokens.specs.declared.token.TokenKind.{TokenKind}
use Rattle.qm_tokens.specs.declared.token.TokenKind.TheVariants as kind
use Rattle.qm_grammar.specs.Symbol.{Symbol}

-- A text of lines: each has one token or more, parted by single spaces, and ends with the byte 10.

abbrev pub spelled_as : TokenKind → List ℕ → List ℕ
spelled_as kind.Word bytes = bytes
spelled_as kind.Quoted bytes = 34 ∷ (bytes ++ 34 ∷ [])

-- the bytes of a token, with its quotes
abbrev pub spelling : Symbol → List ℕ
spelling symbol = spelled_as symbol.kind symbol.bytes

-- a token and a space
abbrev pub spaced : Symbol → List ℕ
spaced symbol = spelling symbol ++ 32 ∷ []

-- the tokens of a line: those before the last, and the last
pub record TokenLine : Type 0 where
  pub prefix : List Symbol
  pub last : Symbol

unfoldable pub line_text : TokenLine → List ℕ
line_text line = flat_map spaced line.prefix ++ (spelling line.last ++ 10 ∷ [])

abbrev pub symbols_of_line : TokenLine → List Symbol
symbols_of_line line = line.prefix ++ line.last ∷ []

-- the text of lines
abbrev pub text_of_lines : List TokenLine → List ℕ
text_of_lines lines = flat_map line_text lines

-- the tokens of lines
abbrev pub symbols_of : List TokenLine → List Symbol
symbols_of lines = flat_map symbols_of_line lines
