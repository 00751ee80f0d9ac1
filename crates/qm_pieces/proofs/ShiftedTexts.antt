-- What bytes give does not depend on where they begin, but for the offsets and lines of the tokens.
use Rattle.std.proofs.Common.{◌≡◌, ℕ, ◌+◌, ◌==◌, nat_le, Bool, true, false, if◌then◌else◌, List, [], ◌∷◌, Option, Some, None, option_map, refl, ap, ap₂, ◌∙◌, arith}
use Rattle.qm_tokens.specs.Lexeme.{Lexeme, line_ends}
use Rattle.qm_tokens.specs.Lexing.{Lexing, prepend}
use Rattle.qm_pieces.specs.Shifted.{shifted, shifted_lexing}
use Rattle.qm_tokens.specs.inner.Modes.{Mode, between, slash, in_comment, in_word, in_quote, mode_after, ended_by, at_end, read}

-- a mode that begins so many bytes and lines further on
abbrev shifted_mode : ℕ → ℕ → Mode → Mode
shifted_mode bytes lines between = between
shifted_mode bytes lines (slash start line) = slash (bytes + start) (lines + line)
shifted_mode bytes lines in_comment = in_comment
shifted_mode bytes lines (in_word known start line) = in_word known (bytes + start) (lines + line)
shifted_mode bytes lines (in_quote known start line) = in_quote known (bytes + start) (lines + line)

module _ (by lines : ℕ) where
  -- a function of either arm is either arm of the function
  arms : {A B : Type 0} (f : A → B) (b : Bool) (one other : A) (first second : B) → first ≡ f one → second ≡ f other → (if b then first else second) ≡ f (if b then one else other)
  arms f true one other first second first_is second_is = first_is
  arms f false one other first second first_is second_is = second_is

  mode_shifted : (mode : Mode) (offset at line on byte : ℕ) → at ≡ by + offset → on ≡ lines + line → mode_after (shifted_mode by lines mode) at on byte ≡ shifted_mode by lines (mode_after mode offset line byte)
  mode_shifted between offset at line on byte at_is on_is =
      let quote : in_quote [] (at + 1) on ≡ in_quote [] (by + (offset + 1)) (lines + line) = let e : at + 1 ≡ by + (offset + 1) = omega arith in rw (e, on_is) refl in
      let word : in_word (byte ∷ []) at on ≡ in_word (byte ∷ []) (by + offset) (lines + line) = rw (at_is, on_is) refl in
      let first : slash at on ≡ slash (by + offset) (lines + line) = rw (at_is, on_is) refl in
      arms (shifted_mode by lines) (nat_le byte 32) _ _ _ _ refl
      (arms (shifted_mode by lines) (byte == 34) _ _ _ _ quote
      (arms (shifted_mode by lines) (byte == 47) _ _ _ _ first word))
  mode_shifted (slash start begun) offset at line on byte at_is on_is =
      arms (shifted_mode by lines) (nat_le byte 32) _ _ _ _ refl (arms (shifted_mode by lines) (byte == 47) _ _ _ _ refl refl)
  mode_shifted in_comment offset at line on byte at_is on_is =
      arms (shifted_mode by lines) (byte == 10) _ _ _ _ refl refl
  mode_shifted (in_word known start begun) offset at line on byte at_is on_is =
      arms (shifted_mode by lines) (nat_le byte 32) _ _ _ _ refl refl
  mode_shifted (in_quote known start begun) offset at line on byte at_is on_is =
      arms (shifted_mode by lines) (byte == 34) _ _ _ _ refl refl

  ended_shifted : (mode : Mode) (offset at byte : ℕ) → at ≡ by + offset → ended_by (shifted_mode by lines mode) at byte ≡ option_map (shifted by lines) (ended_by mode offset byte)
  ended_shifted between offset at byte at_is = refl
  ended_shifted (slash start begun) offset at byte at_is =
      arms (option_map (shifted by lines)) (nat_le byte 32) _ _ _ _ (rw at_is refl) refl
  ended_shifted in_comment offset at byte at_is = refl
  ended_shifted (in_word known start begun) offset at byte at_is =
      arms (option_map (shifted by lines)) (nat_le byte 32) _ _ _ _ (rw at_is refl) refl
  ended_shifted (in_quote known start begun) offset at byte at_is =
      arms (option_map (shifted by lines)) (byte == 34) _ _ _ _ (rw at_is refl) refl

  end_shifted : (mode : Mode) (offset at : ℕ) → at ≡ by + offset → at_end (shifted_mode by lines mode) at ≡ shifted_lexing by lines (at_end mode offset)
  end_shifted between offset at at_is = refl
  end_shifted (slash start begun) offset at at_is = rw at_is refl
  end_shifted in_comment offset at at_is = refl
  end_shifted (in_word known start begun) offset at at_is = rw at_is refl
  end_shifted (in_quote known start begun) offset at at_is = refl

  prepend_shifted : (token : Option Lexeme) (rest : Lexing) → prepend (option_map (shifted by lines) token) (shifted_lexing by lines rest) ≡ shifted_lexing by lines (prepend token rest)
  prepend_shifted None rest = refl
  prepend_shifted (Some token) rest = refl

  pub read_shifted : (mode : Mode) (offset at line on : ℕ) (bytes : List ℕ) → at ≡ by + offset → on ≡ lines + line → read (shifted_mode by lines mode) at on bytes ≡ shifted_lexing by lines (read mode offset line bytes)
  unfolding read
  read_shifted mode offset at line on [] at_is on_is = end_shifted mode offset at at_is
  read_shifted mode offset at line on (byte ∷ bytes) at_is on_is =
      ap₂ (λ (t : Option Lexeme) (m : Mode). prepend t (read m (at + 1) (on + line_ends (byte ∷ [])) bytes)) (ended_shifted mode offset at byte at_is) (mode_shifted mode offset at line on byte at_is on_is)
      ∙ ap (prepend (option_map (shifted by lines) (ended_by mode offset byte))) (read_shifted (mode_after mode offset line byte) (offset + 1) (at + 1) (line + line_ends (byte ∷ [])) (on + line_ends (byte ∷ [])) bytes (omega arith) (omega arith))
      ∙ prepend_shifted (ended_by mode offset byte) (read (mode_after mode offset line byte) (offset + 1) (line + line_ends (byte ∷ [])) bytes)
