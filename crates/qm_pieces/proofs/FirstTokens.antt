-- A token that ends before the bytes do is ended there whatever follows, and what is behind it is read anew.
use Rattle.std.proofs.Common.{◌≡◌, ℕ, ◌+◌, ◌<◌, ◌==◌, nat_le, List, [], ◌∷◌, ◌++◌, Option, Some, None, length, drop, refl, sym, ap, subst, ◌∙◌, arith}
use Rattle.std.specs.Prelude.{All}
use Rattle.std.proofs.lemmas.Option.{cond_some}
use Rattle.std.proofs.lemmas.List.Elements.{All-head}
use Rattle.qm_lists.proofs.Cases.{by_option}
use Rattle.qm_tokens.specs.Lexeme.{Lexeme, line_ends}
use Rattle.qm_tokens.specs.Lexing.{Lexing, prepend, lexeme_then}
use Rattle.qm_tokens.specs.inner.Modes.{Mode, between, slash, in_comment, in_word, in_quote, mode_after, ended_by, word_before, quoted_before, read}
use Rattle.qm_tokens.proofs.PieceRuns.{line_ends-cons}
use Rattle.qm_pieces.specs.FirstToken.{EndsIn}
use Rattle.qm_pieces.proofs.Letters.{EndsAt, last_ends}

-- a byte that ends no token, before bytes in which the first token ends
passed : (mode : Mode) (offset line byte : ℕ) (bytes : List ℕ) (token : Lexeme) → ended_by mode offset byte ≡ None → EndsIn (mode_after mode offset line byte) (offset + 1) (line + line_ends (byte ∷ [])) bytes token → EndsIn mode offset line (byte ∷ bytes) token
unfolding read
passed mode offset line byte bytes token none rest = record {
  front = byte ∷ rest.front;
  after = rest.after;
  split = ap (λ (b : List ℕ). byte ∷ b) rest.split;
  at = rest.at;
  at_is = omega (arith, rest.at_is);
  on = rest.on;
  on_is = omega (arith, rest.on_is, line_ends-cons byte rest.front);
  is_end = rest.is_end;
  goes_on =
      λ more.
      ap (λ (t : Option Lexeme). prepend t (read (mode_after mode offset line byte) (offset + 1) (line + line_ends (byte ∷ [])) (rest.front ++ more))) none
      ∙ rest.goes_on more;
}

-- a byte that ends a token
ended_here : (mode : Mode) (offset line byte : ℕ) (bytes : List ℕ) (token : Lexeme) → offset ≡ token.end → ((more : List ℕ) → read mode offset line (byte ∷ more) ≡ lexeme_then token (read between (offset + 1) (line + line_ends (byte ∷ [])) more)) → EndsIn mode offset line (byte ∷ bytes) token
ended_here mode offset line byte bytes token is goes = record {
  front = byte ∷ [];
  after = bytes;
  split = refl;
  at = offset + 1;
  at_is = omega arith;
  on = line + line_ends (byte ∷ []);
  on_is = refl;
  is_end = omega (arith, is);
  goes_on = goes;
}

ending : (mode : Mode) (offset line byte : ℕ) (bytes : List ℕ) (token : Lexeme) → ended_by mode offset byte ≡ Some token → EndsIn mode offset line (byte ∷ bytes) token
unfolding read
ending between offset line byte bytes token is = absurd cc
ending (slash start begun) offset line byte bytes token is =
    let both = cond_some (nat_le byte 32) (word_before offset (47 ∷ []) start begun) token is in
    subst (λ (t : Lexeme). EndsIn (slash start begun) offset line (byte ∷ bytes) t) both.1
    (ended_here (slash start begun) offset line byte bytes (word_before offset (47 ∷ []) start begun) refl (λ more. rw both.0 refl))
ending in_comment offset line byte bytes token is = absurd cc
ending (in_word known start begun) offset line byte bytes token is =
    let both = cond_some (nat_le byte 32) (word_before offset known start begun) token is in
    subst (λ (t : Lexeme). EndsIn (in_word known start begun) offset line (byte ∷ bytes) t) both.1
    (ended_here (in_word known start begun) offset line byte bytes (word_before offset known start begun) refl (λ more. rw both.0 refl))
ending (in_quote known start begun) offset line byte bytes token is =
    let both = cond_some (byte == 34) (quoted_before offset known start begun) token is in
    subst (λ (t : Lexeme). EndsIn (in_quote known start begun) offset line (byte ∷ bytes) t) both.1
    (ended_here (in_quote known start begun) offset line byte bytes (quoted_before offset known start begun) refl (λ more. rw both.0 refl))

same_first : (one other : Lexeme) (rest more : Lexing) → lexeme_then one rest ≡ lexeme_then other more → one ≡ other
same_first one other rest more same =
    let lists : one ∷ rest.lexemes ≡ other ∷ more.lexemes = ap (λ (l : Lexing). l.lexemes) same in
    cc

same_rest : (one other : Lexeme) (rest more : Lexing) → lexeme_then one rest ≡ lexeme_then other more → rest ≡ more
same_rest one other rest more same =
    ap (λ (l : Lexing). record { lexemes = drop 1 l.lexemes; unclosed_line = l.unclosed_line }) same

first_ends : (bytes : List ℕ) (mode : Mode) (offset line : ℕ) (token : Lexeme) (rest : Lexing) → read mode offset line bytes ≡ lexeme_then token rest → token.end < offset + length bytes → EndsIn mode offset line bytes token
unfolding read
first_ends [] mode offset line token rest is within =
    let all : All (EndsAt offset) (token ∷ rest.lexemes) = subst (λ (l : Lexing). All (EndsAt offset) l.lexemes) is (last_ends mode offset) in
    let ends : token.end ≡ offset = All-head (EndsAt offset) token rest.lexemes all in
    absurd (omega (arith, ends, within))
first_ends (byte ∷ bytes) mode offset line token rest is within =
    let next = read (mode_after mode offset line byte) (offset + 1) (line + line_ends (byte ∷ [])) bytes in
    by_option (ended_by mode offset byte)
    (λ none.
    let same : next ≡ lexeme_then token rest = sym (ap (λ (t : Option Lexeme). prepend t next) none) ∙ is in
    passed mode offset line byte bytes token none (first_ends bytes (mode_after mode offset line byte) (offset + 1) (line + line_ends (byte ∷ [])) token rest same (omega (arith, within))))
    (λ one some.
    let same : lexeme_then one next ≡ lexeme_then token rest = sym (ap (λ (t : Option Lexeme). prepend t next) some) ∙ is in
    subst (λ (t : Lexeme). EndsIn mode offset line (byte ∷ bytes) t) (same_first one token next rest same) (ending mode offset line byte bytes one some))

-- what is left behind the first token is read anew
pub rest_left : (bytes : List ℕ) (offset line : ℕ) (token : Lexeme) (rest : Lexing) → read between offset line bytes ≡ lexeme_then token rest → (ends : EndsIn between offset line bytes token) → rest ≡ read between ends.at ends.on ends.after
rest_left bytes offset line token rest is ends =
    same_rest token token rest (read between ends.at ends.on ends.after) (sym is ∙ ap (read between offset line) ends.split ∙ ends.goes_on ends.after)

-- the first token between two others, where the bytes go on behind it
pub token_ends_in : (bytes : List ℕ) (offset line : ℕ) (token : Lexeme) (rest : Lexing) → read between offset line bytes ≡ lexeme_then token rest → token.end < offset + length bytes → EndsIn between offset line bytes token
token_ends_in bytes offset line token rest is within = first_ends bytes between offset line token rest is within
