-- Each token of bytes whose last is a blank ends before that.
use Rattle.std.proofs.Common.{◌≡◌, ℕ, ◌+◌, ◌-◌, ◌<◌, ◌≤◌, ◌==◌, Bool, true, false, if◌then◌else◌, List, [], ◌∷◌, ◌++◌, Option, Some, None, IfSome, length, get_or, take, take_all, sym, subst, ◌∙◌, arith}
use Rattle.std.specs.Prelude.{All}
use Rattle.std.proofs.lemmas.Bool.{le-leb}
use Rattle.std.proofs.lemmas.List.{take_more, length-take}
use Rattle.std.proofs.lemmas.List.Elements.{All-nil}
use Rattle.qm_tokens.specs.Lexeme.{Lexeme, line_ends}
use Rattle.qm_tokens.specs.inner.Modes.{Mode, between, slash, in_comment, in_word, in_quote, mode_after, ended_by, at_end, read}
use Rattle.qm_tokens.proofs.Standing.{all_prepended}
use Rattle.qm_pieces.proofs.Letters.{EndsAt, ended_ends}

-- a lexeme ends before an offset
abbrev pub EndsBefore : ℕ → Lexeme → Type 0
EndsBefore at lexeme = lexeme.end < at

before_of : (token : Option Lexeme) (offset at : ℕ) → offset < at → IfSome token (EndsAt offset) → IfSome token (EndsBefore at)
before_of None offset at further is = tt
before_of (Some token) offset at further is = omega (arith, further, is)

either : (P : Mode → Type 0) (test : Bool) (one other : Mode) → P one → P other → P (if test then one else other)
either P true one other first second = first
either P false one other first second = second

-- no word is open behind a blank
none_left : (mode : Mode) (offset line byte at : ℕ) → byte ≤ 32 → All (EndsBefore at) (at_end (mode_after mode offset line byte) (offset + 1)).lexemes
none_left between offset line byte at blank = rw (le-leb byte 32 blank) (All-nil (EndsBefore at))
none_left (slash start begun) offset line byte at blank = rw (le-leb byte 32 blank) (All-nil (EndsBefore at))
none_left in_comment offset line byte at blank =
    either (λ (m : Mode). All (EndsBefore at) (at_end m (offset + 1)).lexemes) (byte == 10) between in_comment (All-nil (EndsBefore at)) (All-nil (EndsBefore at))
none_left (in_word known start begun) offset line byte at blank =
    rw (le-leb byte 32 blank) (All-nil (EndsBefore at))
none_left (in_quote known start begun) offset line byte at blank =
    either (λ (m : Mode). All (EndsBefore at) (at_end m (offset + 1)).lexemes) (byte == 34) between (in_quote (known ++ byte ∷ []) start begun) (All-nil (EndsBefore at)) (All-nil (EndsBefore at))

blank_ends : (mode : Mode) (offset line : ℕ) (front : List ℕ) (blank at : ℕ) → blank ≤ 32 → at ≡ offset + length front + 1 → All (EndsBefore at) (read mode offset line (front ++ blank ∷ [])).lexemes
unfolding read
blank_ends mode offset line [] blank at small is =
    all_prepended (EndsBefore at) (ended_by mode offset blank) (at_end (mode_after mode offset line blank) (offset + 1))
    (before_of (ended_by mode offset blank) offset at (omega (arith, is)) (ended_ends mode offset blank))
    (none_left mode offset line blank at small)
blank_ends mode offset line (byte ∷ front) blank at small is =
    all_prepended (EndsBefore at) (ended_by mode offset byte) (read (mode_after mode offset line byte) (offset + 1) (line + line_ends (byte ∷ [])) (front ++ blank ∷ []))
    (before_of (ended_by mode offset byte) offset at (omega (arith, is)) (ended_ends mode offset byte))
    (blank_ends (mode_after mode offset line byte) (offset + 1) (line + line_ends (byte ∷ [])) front blank at small (omega (arith, is)))

-- the tokens of a piece that has no byte, or a blank as its last
pub piece_ends : (piece : List ℕ) → (0 < length piece → get_or piece (length piece - 1) 0 ≤ 32) → All (EndsBefore (length piece)) (read between 0 1 piece).lexemes
unfolding read
piece_ends [] blank = All-nil (EndsBefore 0)
piece_ends (byte ∷ bytes) blank =
    let piece = byte ∷ bytes in
    let last = length piece - 1 in
    let count : last + 1 ≡ length piece = omega arith in
    let split : take last piece ++ get_or piece last 0 ∷ [] ≡ piece =
    sym (take_more piece last 0 (omega arith)) ∙ take_all (last + 1) piece (omega arith) in
    subst (λ (b : List ℕ). All (EndsBefore (length piece)) (read between 0 1 b).lexemes) split
    (blank_ends between 0 1 (take last piece) (get_or piece last 0) (length piece) (blank (omega arith)) (omega (arith, length-take last piece)))
