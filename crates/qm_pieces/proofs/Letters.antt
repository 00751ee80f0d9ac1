-- Letters end no token, so a token that they leave open ends behind them.
use Rattle.std.proofs.Common.{◌≡◌, ℕ, zero, suc, ◌+◌, Bool, true, false, if◌then◌else◌, List, [], ◌∷◌, Some, None, IfSome, length, refl, sym, ap, subst, arith}
use Rattle.std.specs.Prelude.{All}
use Rattle.std.proofs.lemmas.List.Elements.{All-nil, All-cons}
use Rattle.qm_tokens.specs.Lexeme.{Lexeme, line_ends}
use Rattle.qm_tokens.specs.Lexing.{Lexing, prepend}
use Rattle.qm_tokens.specs.inner.Modes.{Mode, between, slash, in_comment, in_word, in_quote, mode_after, ended_by, at_end, read}

-- so many letters `a`
pub letters : ℕ → List ℕ
letters zero = []
letters (suc n) = 97 ∷ letters n

pub letters_length : (n : ℕ) → length (letters n) ≡ n
unfolding letters
letters_length zero = refl
letters_length (suc n) = omega (arith, letters_length n)

-- a lexeme ends at an offset
abbrev pub EndsAt : ℕ → Lexeme → Type 0
EndsAt at lexeme = lexeme.end ≡ at

-- what ends with the text ends at its length
pub last_ends : (mode : Mode) (offset : ℕ) → All (EndsAt offset) (at_end mode offset).lexemes
last_ends between offset = All-nil (EndsAt offset)
last_ends (slash start line) offset = All-cons (EndsAt offset) _ [] refl (All-nil (EndsAt offset))
last_ends in_comment offset = All-nil (EndsAt offset)
last_ends (in_word bytes start line) offset = All-cons (EndsAt offset) _ [] refl (All-nil (EndsAt offset))
last_ends (in_quote bytes start line) offset = All-nil (EndsAt offset)

-- a token that ends or does not end
ended_if : (P : Lexeme → Type 0) (ends : Bool) (token : Lexeme) → P token → IfSome (if ends then Some token else None) P
ended_if P true token holds = holds
ended_if P false token holds = tt

-- the token that a byte ends, without its closing quote, ends before the byte
pub ended_ends : (mode : Mode) (offset byte : ℕ) → IfSome (ended_by mode offset byte) (EndsAt offset)
ended_ends between offset byte = tt
ended_ends (slash start line) offset byte = ended_if (EndsAt offset) _ _ refl
ended_ends in_comment offset byte = tt
ended_ends (in_word bytes start line) offset byte = ended_if (EndsAt offset) _ _ refl
ended_ends (in_quote bytes start line) offset byte = ended_if (EndsAt offset) _ _ refl

letter_ends_none : (mode : Mode) (offset : ℕ) → ended_by mode offset 97 ≡ None
letter_ends_none between offset = refl
letter_ends_none (slash start line) offset = refl
letter_ends_none in_comment offset = refl
letter_ends_none (in_word bytes start line) offset = refl
letter_ends_none (in_quote bytes start line) offset = refl

-- a letter, and what follows
letter_passed : (mode : Mode) (offset line : ℕ) (rest : List ℕ) → read mode offset line (97 ∷ rest) ≡ read (mode_after mode offset line 97) (offset + 1) (line + line_ends (97 ∷ [])) rest
unfolding read
letter_passed mode offset line rest =
    ap (λ t. prepend t (read (mode_after mode offset line 97) (offset + 1) (line + line_ends (97 ∷ [])) rest)) (letter_ends_none mode offset)

-- all tokens of letters end behind the last
pub letters_end : (mode : Mode) (offset line n at : ℕ) → at ≡ offset + n → All (EndsAt at) (read mode offset line (letters n)).lexemes
unfolding letters read
letters_end mode offset line zero at is =
    let same : offset ≡ at = omega arith in
    subst (λ a. All (EndsAt a) (at_end mode offset).lexemes) same (last_ends mode offset)
letters_end mode offset line (suc n) at is =
    subst (λ (l : Lexing). All (EndsAt at) l.lexemes) (sym (letter_passed mode offset line (letters n)))
    (letters_end (mode_after mode offset line 97) (offset + 1) (line + line_ends (97 ∷ [])) n at (omega arith))
