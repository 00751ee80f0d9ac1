-- What is read from an offset on ends there or later.
use Rattle.std.proofs.Common.{ℕ, ◌+◌, ◌≤◌, Bool, true, false, if◌then◌else◌, List, [], ◌∷◌, Some, None, arith}
use Rattle.std.specs.Prelude.{All, IfSome}
use Rattle.std.proofs.lemmas.List.Elements.{All-nil, All-cons}
use Rattle.qm_tokens.specs.Lexeme.{Lexeme, line_ends}
use Rattle.qm_tokens.specs.inner.Modes.{Mode, between, slash, in_comment, in_word, in_quote, mode_after, ended_by, at_end, read}
use Rattle.qm_tokens.proofs.Standing.{all_prepended}

-- a lexeme ends at an offset or behind it
abbrev pub EndsFrom : ℕ → Lexeme → Type 0
EndsFrom at lexeme = at ≤ lexeme.end

-- a token that a byte ends or does not end
ended_if : (P : Lexeme → Type 0) (ends : Bool) (token : Lexeme) → P token → IfSome (if ends then Some token else None) P
ended_if P true token holds = holds
ended_if P false token holds = tt

-- the token that ends before a byte ends at its offset
ended_from : (mode : Mode) (offset byte at : ℕ) → at ≤ offset → IfSome (ended_by mode offset byte) (EndsFrom at)
ended_from between offset byte at before = tt
ended_from (slash start line) offset byte at before = ended_if (EndsFrom at) _ _ before
ended_from in_comment offset byte at before = tt
ended_from (in_word bytes start line) offset byte at before = ended_if (EndsFrom at) _ _ before
ended_from (in_quote bytes start line) offset byte at before = ended_if (EndsFrom at) _ _ before

-- the token that ends with the text ends at its offset
last_from : (mode : Mode) (offset at : ℕ) → at ≤ offset → All (EndsFrom at) (at_end mode offset).lexemes
last_from between offset at before = All-nil (EndsFrom at)
last_from (slash start line) offset at before = All-cons (EndsFrom at) _ [] before (All-nil (EndsFrom at))
last_from in_comment offset at before = All-nil (EndsFrom at)
last_from (in_word bytes start line) offset at before = All-cons (EndsFrom at) _ [] before (All-nil (EndsFrom at))
last_from (in_quote bytes start line) offset at before = All-nil (EndsFrom at)

-- all that is read from an offset on ends there or later
pub read_from : (mode : Mode) (offset line : ℕ) (bytes : List ℕ) (at : ℕ) → at ≤ offset → All (EndsFrom at) (read mode offset line bytes).lexemes
unfolding read
read_from mode offset line [] at before = last_from mode offset at before
read_from mode offset line (byte ∷ bytes) at before =
    all_prepended (EndsFrom at) (ended_by mode offset byte) (read (mode_after mode offset line byte) (offset + 1) (line + line_ends (byte ∷ [])) bytes) (ended_from mode offset byte at before)
    (read_from (mode_after mode offset line byte) (offset + 1) (line + line_ends (byte ∷ [])) bytes at (omega arith))
