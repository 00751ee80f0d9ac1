use Rattle.std.specs.Prelude.{◌≡◌, ℕ, ◌+◌, ◌-◌, ◌≤◌, ◌==◌, List, slice_range, take, length, count_by}
use Rattle.qm_tokens.specs.declared.token.Token.{Token}
use Rattle.qm_tokens.specs.declared.token.TokenKind.{TokenKind}
use Rattle.qm_tokens.specs.declared.token.TokenKind.TheVariants.{Word, Quoted}

-- a token with the bytes that it stands for
pub record Lexeme : Type 0 where
  pub kind : TokenKind
  pub bytes : List ℕ
  pub start : ℕ
  pub end : ℕ
  pub line : ℕ

-- a token of a text as a lexeme
abbrev pub lexeme_of : List ℕ → Token → Lexeme
lexeme_of text token =
    record { kind = token.kind; bytes = slice_range text token.start token.end; start = token.start; end = token.end; line = token.line }

-- how many quotes stand before a token of this kind, and as many behind it
abbrev pub quote_length : TokenKind → ℕ
quote_length Word = 0
quote_length Quoted = 1

-- how many lines end in the bytes
abbrev pub line_ends : List ℕ → ℕ
line_ends bytes = count_by (λ byte. byte == 10) bytes

-- the lexeme's bytes are those of the text between its offsets, and its quotes stand around them in the text; its line
-- is one more than the lines that end before its first byte, or before its opening quote
pub record StandsIn (text : List ℕ) (lexeme : Lexeme) : Type 0 where
  pub ordered : lexeme.start ≤ lexeme.end
  pub opened_within : quote_length lexeme.kind ≤ lexeme.start
  pub closed_within : lexeme.end + quote_length lexeme.kind ≤ length text
  pub bytes_are : lexeme.bytes ≡ slice_range text lexeme.start lexeme.end
  pub line_is : lexeme.line ≡ 1 + line_ends (take (lexeme.start - quote_length lexeme.kind) text)
