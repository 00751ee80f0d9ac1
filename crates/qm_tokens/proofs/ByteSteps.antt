-- What one byte, or the end of the text, does to each mode of a reader of single bytes.
use Rattle.std.proofs.Common.{◌≡◌, ℕ, ◌+◌, ◌-◌, ◌==◌, ◌<◌, ◌≤◌, List, [], ◌∷◌, ◌++◌, length, get_or, take, drop, slice_range, sym, refl, ap, ◌∙◌, ⊎_elim, add-zero, arith}
use Rattle.std.proofs.lemmas.Bool.{le-leb, lt-leb, eq-eqb, ne_eqb, cases_eq}
use Rattle.std.proofs.lemmas.List.{at_drop_more, at_drop_all, get_or-drop}
use Rattle.std.proofs.lemmas.List.Edits.{between_more}
use Rattle.std.proofs.lemmas.List.Sums.{count_by-le-length}
use Rattle.qm_tokens.specs.Lexeme.{line_ends}
use Rattle.qm_tokens.specs.Lexing.{lexeme_then, prepend}
use Rattle.qm_tokens.specs.inner.Modes.{Mode, between, slash, in_comment, in_word, in_quote, mode_after, ended_by, at_end, word_before, quoted_before, read}

-- no line ends with another byte than 10
pub same_line : (line byte : ℕ) → (byte ≡ 10 → ⊥) → line + line_ends (byte ∷ []) ≡ line
same_line line byte other = rw (ne_eqb byte 10 other) (add-zero line)

-- one byte ends a line at most
pub line_ends_one : (byte : ℕ) → line_ends (byte ∷ []) ≤ 1
line_ends_one byte = count_by-le-length (λ b. b == 10) (byte ∷ [])

-- the bytes between an offset and itself
pub slice_none : (text : List ℕ) (at : ℕ) → slice_range text at at ≡ []
slice_none text at =
    let none : at - at ≡ 0 = omega arith in
    ap (λ n. take n (drop at text)) none

-- the bytes between an offset and the next
pub slice_one : (text : List ℕ) (at : ℕ) → at < length text → slice_range text at (at + 1) ≡ get_or text at 0 ∷ []
slice_one text at inside = between_more text at at 0 (omega arith) inside ∙ ap (λ bytes. bytes ++ get_or text at 0 ∷ []) (slice_none text at)

-- behind the end of the text
pub read_at_end : (mode : Mode) (at line : ℕ) (text : List ℕ) → length text ≤ at → read mode at line (drop at text) ≡ at_end mode at
unfolding read
read_at_end mode at line text past = at_drop_all (read mode at line) text at past

-- a `/` that no second one follows opens a word
slash_as_word : (start begun at line : ℕ) (rest : List ℕ) → (get_or rest 0 0 ≡ 47 → ⊥) → read (slash start begun) at line rest ≡ read (in_word (47 ∷ []) start begun) at line rest
unfolding read
slash_as_word start begun at line [] other = refl
slash_as_word start begun at line (byte ∷ bytes) other = rw (ne_eqb byte 47 other) refl

-- a `/` between tokens
pub slash_begins : (at line : ℕ) (rest : List ℕ) → read between at line (47 ∷ rest) ≡ read (slash at line) (at + 1) line rest
unfolding read
slash_begins at line rest = ap (λ l. read (slash at line) (at + 1) l rest) (add-zero line)

-- a byte that opens a word
pub word_begins : (at line byte : ℕ) (rest : List ℕ) → 32 < byte → (byte ≡ 34 → ⊥) → (byte ≡ 47 → get_or rest 0 0 ≡ 47 → ⊥) → read between at line (byte ∷ rest) ≡ read (in_word (byte ∷ []) at line) (at + 1) line rest
unfolding read
word_begins at line byte rest no_blank no_quote no_comment =
    let other : byte ≡ 10 → ⊥ = λ e. omega arith in
    ⊎_elim
    (λ is_slash. rw is_slash (slash_begins at line rest ∙ slash_as_word at line (at + 1) line rest (no_comment is_slash)))
    (λ no_slash. rw (lt-leb byte 32 no_blank, ne_eqb byte 34 no_quote, ne_eqb byte 47 no_slash, ne_eqb byte 10 other, add-zero) refl)
    (cases_eq byte 47)

module _ (text : List ℕ) (at : ℕ) (inside : at < length text) where
  -- one byte
  read_byte : (mode : Mode) (line : ℕ) → read mode at line (drop at text) ≡ prepend (ended_by mode at (get_or text at 0)) (read (mode_after mode at line (get_or text at 0)) (at + 1) (line + line_ends (get_or text at 0 ∷ [])) (drop (at + 1) text))
  unfolding read
  read_byte mode line = at_drop_more (read mode at line) text at 0 inside

  pub blank_passed : (line : ℕ) → get_or text at 0 ≤ 32 → read between at line (drop at text) ≡ read between (at + 1) (line + line_ends (get_or text at 0 ∷ [])) (drop (at + 1) text)
  blank_passed line blank = read_byte between line ∙ rw (le-leb (get_or text at 0) 32 blank) refl

  pub comment_goes_on : (line : ℕ) → (get_or text at 0 ≡ 10 → ⊥) → read in_comment at line (drop at text) ≡ read in_comment (at + 1) line (drop (at + 1) text)
  comment_goes_on line other = read_byte in_comment line ∙ rw (ne_eqb (get_or text at 0) 10 other, add-zero) refl

  comment_left : (line : ℕ) → get_or text at 0 ≡ 10 → read in_comment at line (drop at text) ≡ read between (at + 1) (line + line_ends (get_or text at 0 ∷ [])) (drop (at + 1) text)
  comment_left line is_end = read_byte in_comment line ∙ rw (eq-eqb (get_or text at 0) 10 is_end) refl

  pub comment_ends : (line : ℕ) → get_or text at 0 ≡ 10 → read in_comment at line (drop at text) ≡ read between at line (drop at text)
  comment_ends line is_end = comment_left line is_end ∙ sym (blank_passed line (omega arith))

  pub word_goes_on : (start begun line : ℕ) → start ≤ at → 32 < get_or text at 0 → read (in_word (slice_range text start at) start begun) at line (drop at text) ≡ read (in_word (slice_range text start (at + 1)) start begun) (at + 1) line (drop (at + 1) text)
  word_goes_on start begun line behind no_blank =
      let other : get_or text at 0 ≡ 10 → ⊥ = λ e. omega arith in
      let more = between_more text start at 0 behind inside in
      read_byte (in_word (slice_range text start at) start begun) line ∙ rw (lt-leb (get_or text at 0) 32 no_blank, ne_eqb (get_or text at 0) 10 other, add-zero, more) refl

  pub word_ends : (bytes : List ℕ) (start begun line : ℕ) → get_or text at 0 ≤ 32 → read (in_word bytes start begun) at line (drop at text) ≡ lexeme_then (word_before at bytes start begun) (read between at line (drop at text))
  word_ends bytes start begun line blank =
      let next = blank_passed line blank in
      read_byte (in_word bytes start begun) line ∙ rw (le-leb (get_or text at 0) 32 blank, next) refl

  slash_opens : (line : ℕ) → get_or text at 0 ≡ 47 → read between at line (drop at text) ≡ read (slash at line) (at + 1) line (drop (at + 1) text)
  slash_opens line is_slash = read_byte between line ∙ rw (is_slash, add-zero) refl

  pub word_opens : (line : ℕ) → 32 < get_or text at 0 → (get_or text at 0 ≡ 34 → ⊥) → (get_or text at 0 ≡ 47 → get_or text (at + 1) 0 ≡ 47 → ⊥) → read between at line (drop at text) ≡ read (in_word (get_or text at 0 ∷ []) at line) (at + 1) line (drop (at + 1) text)
  word_opens line no_blank no_quote no_comment =
      let next : get_or (drop (at + 1) text) 0 0 ≡ get_or text (at + 1) 0 = get_or-drop (at + 1) text 0 0 ∙ ap (λ i. get_or text i 0) (add-zero (at + 1)) in
      at_drop_more (read between at line) text at 0 inside ∙ word_begins at line (get_or text at 0) (drop (at + 1) text) no_blank no_quote (λ is_slash e. no_comment is_slash (sym next ∙ e))

  pub quote_opens : (line : ℕ) → get_or text at 0 ≡ 34 → read between at line (drop at text) ≡ read (in_quote [] (at + 1) line) (at + 1) line (drop (at + 1) text)
  quote_opens line quote = read_byte between line ∙ rw (quote, add-zero) refl

  pub quote_goes_on : (start begun line : ℕ) → start ≤ at → (get_or text at 0 ≡ 34 → ⊥) → read (in_quote (slice_range text start at) start begun) at line (drop at text) ≡ read (in_quote (slice_range text start (at + 1)) start begun) (at + 1) (line + line_ends (get_or text at 0 ∷ [])) (drop (at + 1) text)
  quote_goes_on start begun line behind no_quote =
      let more = between_more text start at 0 behind inside in
      read_byte (in_quote (slice_range text start at) start begun) line ∙ rw (ne_eqb (get_or text at 0) 34 no_quote, more) refl

  pub quote_ends : (bytes : List ℕ) (start begun line : ℕ) → get_or text at 0 ≡ 34 → read (in_quote bytes start begun) at line (drop at text) ≡ lexeme_then (quoted_before at bytes start begun) (read between (at + 1) line (drop (at + 1) text))
  quote_ends bytes start begun line quote = read_byte (in_quote bytes start begun) line ∙ rw (quote, add-zero) refl

-- two slashes open a comment
pub comment_opens : (text : List ℕ) (at line : ℕ) → at + 1 < length text → get_or text at 0 ≡ 47 → get_or text (at + 1) 0 ≡ 47 → read between at line (drop at text) ≡ read in_comment (at + 2) line (drop (at + 2) text)
comment_opens text at line inside first second =
    let two : at + 1 + 1 ≡ at + 2 = omega arith in
    slash_opens text at (omega arith) line first ∙ read_byte text (at + 1) inside (slash at line) line ∙ rw (second, add-zero, two) refl
