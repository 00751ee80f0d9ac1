use Rattle.std.specs.Prelude.{◌≡◌, ◌≢◌, ℕ, ◌+◌, ◌<◌, ◌≤◌, List, [], drop, length, slice_index, slice_range}
use Rattle.qm_lex.specs.declared.scan.Position.{Position}
use Rattle.qm_lex.specs.declared.scan.Found.{Found}
use Rattle.qm_tokens.specs.Lexeme.{lexeme_of, quote_length}
use Rattle.qm_tokens.specs.Lexing.{Lexing, lexeme_then}
use Rattle.qm_tokens.specs.Reading.{Reading}
use Rattle.qm_tokens.specs.inner.Modes.{between, in_word, in_quote, read, word_before, quoted_before}

-- a position lies in the text, and its line is one that can be reached there
pub record IsPositionIn (text : List ℕ) (position : Position) : Type 0 where
  pub in_text : position.offset ≤ length text
  pub line_bound : position.line ≤ position.offset + 1

-- what is left of a text at a position between two tokens
abbrev pub left_at : List ℕ → Position → Lexing
left_at text position = read between position.offset position.line (drop position.offset text)

-- the second position is further on, and no token stands between the two
pub record IsPast (text : List ℕ) (old new : Position) : Type 0 where
  pub further : old.offset < new.offset
  pub position : IsPositionIn text new
  pub same_left : left_at text old ≡ left_at text new

-- a token starts at an offset: no blank and no comment
pub record StartsToken (text : List ℕ) (offset : ℕ) : Type 0 where
  pub in_text : offset < length text
  pub no_blank : 32 < slice_index text offset
  pub no_comment : slice_index text offset ≡ 47 → slice_index text (offset + 1) ≢ 47

-- the word that starts at an offset ends at another
pub record IsWordEnd (text : List ℕ) (start end : ℕ) : Type 0 where
  pub further : start < end
  pub in_text : end ≤ length text
  pub passed : (line : ℕ)
      → read (in_word (slice_range text start (start + 1)) start line) (start + 1) line (drop (start + 1) text)
      ≡ lexeme_then (word_before end (slice_range text start end) start line) (read between end line (drop end text))

-- the quote that is open at a position is closed by the quote at another
pub record IsClosedAt (text : List ℕ) (opened closed : Position) : Type 0 where
  pub further : opened.offset ≤ closed.offset
  pub in_text : closed.offset < length text
  pub line_bound : closed.line ≤ closed.offset + 1
  pub passed : read (in_quote [] opened.offset opened.line) opened.offset opened.line (drop opened.offset text)
      ≡ lexeme_then (quoted_before closed.offset (slice_range text opened.offset closed.offset) opened.offset opened.line) (read between (closed.offset + 1) closed.line (drop (closed.offset + 1) text))

-- the token found at a position is the next lexeme
pub record IsFoundAt (text : List ℕ) (position : Position) (found : Found) : Type 0 where
  pub behind : IsPositionIn text found.behind
  pub ordered : found.token.start ≤ found.token.end
  pub within : found.token.end + quote_length found.token.kind ≤ length text
  pub next : left_at text position ≡ lexeme_then (lexeme_of text found.token) (left_at text found.behind)

-- the reading of a text at a position between two tokens
abbrev pub reading_at : List ℕ → Position → Reading
reading_at text position = record { text = text; left = left_at text position }
