-- A reader of single bytes gives what the pieces of a text give.
use Rattle.std.proofs.Common.{◌≡◌, ℕ, suc, ◌+◌, ◌==◌, ◌<◌, List, [], ◌∷◌, ◌++◌, length, get_or, cond, sym, refl, ap, ◌∙◌, append_assoc, length-append, add-zero, arith}
use Rattle.std.specs.Prelude.{All}
use Rattle.std.proofs.lemmas.Bool.{le-leb, lt-leb, ne_eqb}
use Rattle.std.proofs.lemmas.List.{append-nil}
use Rattle.std.proofs.lemmas.List.Elements.{All-head, All-tail}
use Rattle.std.proofs.lemmas.List.Sums.{sum_by-append}
use Rattle.qm_tokens.specs.Lexeme.{line_ends}
use Rattle.qm_tokens.specs.Lexing.{Lexing, unclosed_on, lexeme_then, lexing_from}
use Rattle.qm_tokens.specs.inner.Modes.{between, slash, in_comment, in_word, in_quote, word_before, quoted_before, read}
use Rattle.qm_tokens.specs.Piece.{TextPiece, blank, comment, word, quoted, unclosed, EndsLine, EndsWord, OpensWord, ArePiecesOf}
use Rattle.qm_tokens.proofs.ByteSteps.{slash_begins, word_begins, same_line}

-- the lines that end in two parts
pub line_ends-append : (prefix rest : List ℕ) → line_ends (prefix ++ rest) ≡ line_ends prefix + line_ends rest
line_ends-append prefix rest = sum_by-append (λ x. cond (x == 10) 1 0) prefix rest

-- the lines that end in the first byte and in the rest
pub line_ends-cons : (byte : ℕ) (bytes : List ℕ) → line_ends (byte ∷ bytes) ≡ line_ends (byte ∷ []) + line_ends bytes
line_ends-cons byte bytes = line_ends-append (byte ∷ []) bytes

-- a function of the offset and the line behind one byte and more
behind : (F : ℕ → ℕ → Lexing) (offset line byte : ℕ) (bytes : List ℕ) → F (offset + 1 + length bytes) (line + line_ends (byte ∷ []) + line_ends bytes) ≡ F (offset + suc (length bytes)) (line + line_ends (byte ∷ bytes))
behind F offset line byte bytes =
    let offsets : offset + 1 + length bytes ≡ offset + suc (length bytes) = omega arith in
    let lines : line + line_ends (byte ∷ []) + line_ends bytes ≡ line + line_ends (byte ∷ bytes) = omega (arith, line_ends-cons byte bytes) in
    ap (λ o. F o (line + line_ends (byte ∷ []) + line_ends bytes)) offsets ∙ ap (F (offset + suc (length bytes))) lines

-- behind a comment
comment_stops : (offset line : ℕ) (after : List ℕ) → EndsLine after → read in_comment offset line after ≡ read between offset line after
unfolding read
comment_stops offset line [] ends = refl
comment_stops offset line (byte ∷ after) ends = rw ends refl

comment_run : (offset line : ℕ) (bytes after : List ℕ) → All (λ byte. byte ≡ 10 → ⊥) bytes → EndsLine after → read in_comment offset line (bytes ++ after) ≡ read between (offset + length bytes) (line + line_ends bytes) after
unfolding read
comment_run offset line [] after inside ends = rw (add-zero offset, add-zero line) (comment_stops offset line after ends)
comment_run offset line (byte ∷ bytes) after inside ends =
    let other = All-head (λ b. b ≡ 10 → ⊥) byte bytes inside in
    let rest = All-tail (λ b. b ≡ 10 → ⊥) byte bytes inside in
    let step : read in_comment offset line (byte ∷ (bytes ++ after)) ≡ read in_comment (offset + 1) (line + line_ends (byte ∷ [])) (bytes ++ after) = rw (ne_eqb byte 10 other) refl in
    step ∙ comment_run (offset + 1) (line + line_ends (byte ∷ [])) bytes after rest ends ∙ behind (λ o l. read between o l after) offset line byte bytes

-- behind a word
word_stops : (known : List ℕ) (start begun offset line : ℕ) (after : List ℕ) → EndsWord after → read (in_word known start begun) offset line after ≡ lexeme_then (word_before offset known start begun) (read between offset line after)
unfolding read
word_stops known start begun offset line [] ends = refl
word_stops known start begun offset line (byte ∷ after) ends = rw (le-leb byte 32 ends) refl

word_run : (known : List ℕ) (start begun offset line : ℕ) (bytes after : List ℕ) → All (λ byte. 32 < byte) bytes → EndsWord after → read (in_word known start begun) offset line (bytes ++ after) ≡ lexeme_then (word_before (offset + length bytes) (known ++ bytes) start begun) (read between (offset + length bytes) (line + line_ends bytes) after)
unfolding read
word_run known start begun offset line [] after inside ends = rw (add-zero offset, add-zero line, append-nil known) (word_stops known start begun offset line after ends)
word_run known start begun offset line (byte ∷ bytes) after inside ends =
    let no_blank = All-head (λ b. 32 < b) byte bytes inside in
    let rest = All-tail (λ b. 32 < b) byte bytes inside in
    let step : read (in_word known start begun) offset line (byte ∷ (bytes ++ after)) ≡ read (in_word (known ++ byte ∷ []) start begun) (offset + 1) (line + line_ends (byte ∷ [])) (bytes ++ after) = rw (lt-leb byte 32 no_blank) refl in
    let whole : (known ++ byte ∷ []) ++ bytes ≡ known ++ byte ∷ bytes = append_assoc known (byte ∷ []) bytes in
    step ∙ word_run (known ++ byte ∷ []) start begun (offset + 1) (line + line_ends (byte ∷ [])) bytes after rest ends ∙ behind (λ o l. lexeme_then (word_before o ((known ++ byte ∷ []) ++ bytes) start begun) (read between o l after)) offset line byte bytes ∙ rw whole refl

-- behind a quoted token
quote_run : (known : List ℕ) (start begun offset line : ℕ) (bytes after : List ℕ) → All (λ byte. byte ≡ 34 → ⊥) bytes → read (in_quote known start begun) offset line (bytes ++ 34 ∷ after) ≡ lexeme_then (quoted_before (offset + length bytes) (known ++ bytes) start begun) (read between (offset + length bytes + 1) (line + line_ends bytes) after)
unfolding read
quote_run known start begun offset line [] after inside = rw (add-zero offset, add-zero line, append-nil known) refl
quote_run known start begun offset line (byte ∷ bytes) after inside =
    let other = All-head (λ b. b ≡ 34 → ⊥) byte bytes inside in
    let rest = All-tail (λ b. b ≡ 34 → ⊥) byte bytes inside in
    let step : read (in_quote known start begun) offset line (byte ∷ (bytes ++ 34 ∷ after)) ≡ read (in_quote (known ++ byte ∷ []) start begun) (offset + 1) (line + line_ends (byte ∷ [])) (bytes ++ 34 ∷ after) = rw (ne_eqb byte 34 other) refl in
    let whole : (known ++ byte ∷ []) ++ bytes ≡ known ++ byte ∷ bytes = append_assoc known (byte ∷ []) bytes in
    step ∙ quote_run (known ++ byte ∷ []) start begun (offset + 1) (line + line_ends (byte ∷ [])) bytes after rest ∙ behind (λ o l. lexeme_then (quoted_before o ((known ++ byte ∷ []) ++ bytes) start begun) (read between (o + 1) l after)) offset line byte bytes ∙ rw whole refl

-- behind a quote that is not closed
open_run : (known : List ℕ) (start begun offset line : ℕ) (bytes : List ℕ) → All (λ byte. byte ≡ 34 → ⊥) bytes → read (in_quote known start begun) offset line bytes ≡ unclosed_on begun
unfolding read
open_run known start begun offset line [] inside = refl
open_run known start begun offset line (byte ∷ bytes) inside =
    let other = All-head (λ b. b ≡ 34 → ⊥) byte bytes inside in
    let rest = All-tail (λ b. b ≡ 34 → ⊥) byte bytes inside in
    rw (ne_eqb byte 34 other) (open_run (known ++ byte ∷ []) start begun (offset + 1) (line + line_ends (byte ∷ [])) bytes rest)

-- what opens a word and ends it keeps it from being a quote or a comment
opened : (byte : ℕ) (bytes after : List ℕ) → OpensWord (byte ∷ bytes) → EndsWord after → (byte ≡ 34 → ⊥) × (byte ≡ 47 → get_or (bytes ++ after) 0 0 ≡ 47 → ⊥)
opened byte [] [] opens ends = (opens, λ _ second. cc)
opened byte [] (next ∷ after) opens ends = (opens, λ _ second. omega arith)
opened byte (second ∷ bytes) after opens ends = opens

word_piece : (offset line : ℕ) (bytes after : List ℕ) → OpensWord bytes → All (λ byte. 32 < byte) bytes → EndsWord after → read between offset line (bytes ++ after) ≡ lexeme_then (word_before (offset + length bytes) bytes offset line) (read between (offset + length bytes) (line + line_ends bytes) after)
word_piece offset line [] after opens inside ends = absurd opens
word_piece offset line (byte ∷ bytes) after opens inside ends =
    let begins = opened byte bytes after opens ends in
    let no_blank = All-head (λ b. 32 < b) byte bytes inside in
    let rest = All-tail (λ b. 32 < b) byte bytes inside in
    let other : byte ≡ 10 → ⊥ = λ e. omega arith in
    word_begins offset line byte (bytes ++ after) no_blank begins.0 begins.1
    ∙ word_run (byte ∷ []) offset line (offset + 1) line bytes after rest ends
    ∙ ap (λ l. lexeme_then (word_before (offset + 1 + length bytes) (byte ∷ bytes) offset line) (read between (offset + 1 + length bytes) (l + line_ends bytes) after)) (sym (same_line line byte other))
    ∙ behind (λ o l. lexeme_then (word_before o (byte ∷ bytes) offset line) (read between o l after)) offset line byte bytes

-- the second slash of a comment
slash_comment : (start begun offset line : ℕ) (rest : List ℕ) → read (slash start begun) offset line (47 ∷ rest) ≡ read in_comment (offset + 1) line rest
unfolding read
slash_comment start begun offset line rest = ap (λ l. read in_comment (offset + 1) l rest) (add-zero line)

comment_piece : (offset line : ℕ) (bytes after : List ℕ) → All (λ byte. byte ≡ 10 → ⊥) bytes → EndsLine after → read between offset line (47 ∷ 47 ∷ (bytes ++ after)) ≡ read between (offset + suc (suc (length bytes))) (line + line_ends bytes) after
comment_piece offset line bytes after inside ends =
    let offsets : offset + 1 + 1 + length bytes ≡ offset + suc (suc (length bytes)) = omega arith in
    slash_begins offset line (47 ∷ (bytes ++ after))
    ∙ slash_comment offset line (offset + 1) line (bytes ++ after)
    ∙ comment_run (offset + 1 + 1) line bytes after inside ends
    ∙ ap (λ o. read between o (line + line_ends bytes) after) offsets

-- the opening quote of a token
quote_begins : (offset line : ℕ) (rest : List ℕ) → read between offset line (34 ∷ rest) ≡ read (in_quote [] (offset + 1) line) (offset + 1) line rest
unfolding read
quote_begins offset line rest = ap (λ l. read (in_quote [] (offset + 1) line) (offset + 1) l rest) (add-zero line)

quoted_piece : (offset line : ℕ) (bytes after : List ℕ) → All (λ byte. byte ≡ 34 → ⊥) bytes → read between offset line (34 ∷ ((bytes ++ 34 ∷ []) ++ after)) ≡ lexeme_then (quoted_before (offset + 1 + length bytes) bytes (offset + 1) line) (read between (offset + suc (length (bytes ++ 34 ∷ []))) (line + line_ends (bytes ++ 34 ∷ [])) after)
quoted_piece offset line bytes after inside =
    let token = quoted_before (offset + 1 + length bytes) bytes (offset + 1) line in
    let offsets : offset + 1 + length bytes + 1 ≡ offset + suc (length (bytes ++ 34 ∷ [])) = omega (arith, length-append bytes (34 ∷ [])) in
    let lines : line + line_ends bytes ≡ line + line_ends (bytes ++ 34 ∷ []) = omega (arith, line_ends-append bytes (34 ∷ [])) in
    rw (append_assoc bytes (34 ∷ []) after) (quote_begins offset line (bytes ++ 34 ∷ after))
    ∙ quote_run [] (offset + 1) line (offset + 1) line bytes after inside
    ∙ ap (λ o. lexeme_then token (read between o (line + line_ends bytes) after)) offsets
    ∙ ap (λ l. lexeme_then token (read between (offset + suc (length (bytes ++ 34 ∷ []))) l after)) lines

unclosed_piece : (offset line : ℕ) (bytes after : List ℕ) → All (λ byte. byte ≡ 34 → ⊥) bytes → after ≡ [] → read between offset line (34 ∷ (bytes ++ after)) ≡ unclosed_on line
unclosed_piece offset line bytes after inside none =
    quote_begins offset line (bytes ++ after) ∙ rw (none, append-nil bytes) (open_run [] (offset + 1) line (offset + 1) line bytes inside)

-- the pieces of a text, one after another
pub read_pieces : (text : List ℕ) (pieces : List TextPiece) (offset line : ℕ) → ArePiecesOf text pieces → read between offset line text ≡ lexing_from offset line pieces
unfolding read
read_pieces text [] offset line are = rw are refl
read_pieces text (blank byte ∷ pieces) offset line (after, joined, is_blank, rest) =
    rw (joined, le-leb byte 32 is_blank) (read_pieces after pieces (offset + 1) (line + line_ends (byte ∷ [])) rest)
read_pieces text (comment bytes ∷ pieces) offset line (after, joined, is_comment, rest) =
    rw joined (comment_piece offset line bytes after is_comment.0 is_comment.1) ∙ read_pieces after pieces (offset + suc (suc (length bytes))) (line + line_ends bytes) rest
read_pieces text (word bytes ∷ pieces) offset line (after, joined, is_word, rest) =
    rw joined (word_piece offset line bytes after is_word.0 is_word.1 is_word.2) ∙ ap (lexeme_then (word_before (offset + length bytes) bytes offset line)) (read_pieces after pieces (offset + length bytes) (line + line_ends bytes) rest)
read_pieces text (quoted bytes ∷ pieces) offset line (after, joined, is_quoted, rest) =
    rw joined (quoted_piece offset line bytes after is_quoted) ∙ ap (lexeme_then (quoted_before (offset + 1 + length bytes) bytes (offset + 1) line)) (read_pieces after pieces (offset + suc (length (bytes ++ 34 ∷ []))) (line + line_ends (bytes ++ 34 ∷ [])) rest)
read_pieces text (unclosed bytes ∷ pieces) offset line (after, joined, is_unclosed, rest) =
    rw joined (unclosed_piece offset line bytes after is_unclosed.0 is_unclosed.1)
