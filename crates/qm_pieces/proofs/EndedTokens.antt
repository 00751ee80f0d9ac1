-- The tokens that a text so far has ended are those that it has whatever follows.
use Rattle.std.proofs.Common.{◌≡◌, ℕ, ◌+◌, List, ◌++◌, ◌⊎◌, ◌↔◌, inl, inr, refl, sym, subst, ◌∙◌, ⊎_elim, arith}
use Rattle.std.specs.Prelude.{Contains}
use Rattle.std.proofs.lemmas.List.Elements.{All-contains, Contains-append_left, Contains-append_cases}
use Rattle.qm_tokens.specs.Lexeme.{Lexeme}
use Rattle.qm_tokens.specs.Lexing.{Lexing}
use Rattle.qm_grammar.proofs.Lexings.{one_lexing}
use Rattle.qm_pieces.specs.LexingState.{LexingState, read_on}
use Rattle.qm_pieces.specs.TextSoFar.{lexemes_then, IsLexedTo, IsEndedToken}
use Rattle.qm_pieces.proofs.Letters.{letters, EndsAt, letters_end}

module _ (text : List ℕ) (given : List Lexeme) (state : LexingState) (lexed : IsLexedTo text given state) (token : Lexeme) where
  given_ended : Contains given token → IsEndedToken text token
  given_ended contains more lexing is =
      let same : lexemes_then given (read_on state more) ≡ lexing = one_lexing (text ++ more) (lexemes_then given (read_on state more)) (lexed.goes_on more) ∙ sym (one_lexing (text ++ more) lexing is) in
      subst (λ (l : Lexing). Contains l.lexemes token) same (Contains-append_left given (read_on state more).lexemes token contains)

  -- it has ended already, or it ends behind so many letters
  ended_before : IsEndedToken text token → (n : ℕ) → Contains given token ⊎ (token.end ≡ state.offset + n)
  ended_before ended n =
      ⊎_elim (λ before. inl before)
      (λ later. inr (All-contains (EndsAt (state.offset + n)) (read_on state (letters n)).lexemes token (letters_end state.mode state.offset state.line n (state.offset + n) refl) later))
      (Contains-append_cases given (read_on state (letters n)).lexemes token (ended (letters n) (lexemes_then given (read_on state (letters n))) (lexed.goes_on (letters n))))

  ended_given : IsEndedToken text token → Contains given token
  ended_given ended =
      ⊎_elim (λ before. before)
      (λ now. ⊎_elim (λ before. before) (λ later. absurd (omega (arith, now, later))) (ended_before ended 1))
      (ended_before ended 0)

  pub given_are_ended : Contains given token ↔ IsEndedToken text token
  given_are_ended = (given_ended, ended_given)
