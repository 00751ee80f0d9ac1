use Rattle.std.specs.Prelude.{ℕ, ◌+◌, map, option_map}
use Rattle.qm_tokens.specs.Lexeme.{Lexeme}
use Rattle.qm_tokens.specs.Lexing.{Lexing}

-- a lexeme that begins so many bytes and lines further on
abbrev pub shifted : ℕ → ℕ → Lexeme → Lexeme
shifted bytes lines lexeme = record {
  kind = lexeme.kind;
  bytes = lexeme.bytes;
  start = bytes + lexeme.start;
  end = bytes + lexeme.end;
  line = lines + lexeme.line;
}

-- the same of all lexemes of a text, and of its quote that is not closed
abbrev pub shifted_lexing : ℕ → ℕ → Lexing → Lexing
shifted_lexing bytes lines lexing = record {
  lexemes = map (shifted bytes lines) lexing.lexemes;
  unclosed_line = option_map (λ line. lines + line) lexing.unclosed_line;
}
