-- Which byte is the mark that is due.
use Rattle.std.proofs.Common.{◌≡◌, ◌≢◌, ◌==◌, ℕ, List, [], ◌∷◌, length, get_or, None, ⊎_elim, refl, sym, subst, arith}
use Rattle.std.proofs.lemmas.Bool.{cases_eq, ne_eqb}
use Rattle.qm_grammar.specs.declared.mark.Mark.{Mark}
use Rattle.qm_grammar.specs.declared.mark.Mark.TheVariants.{OpenBrace, CloseBrace, OpenParenthesis, CloseParenthesis, OpenBracket, CloseBracket}
use Rattle.qm_tokens.specs.declared.token.TokenKind.{TokenKind}
use Rattle.qm_tokens.specs.declared.token.TokenKind.TheVariants.{Word}
use Rattle.qm_grammar.specs.Symbol.{mark_of_byte, word_sort, sort_of}
use Rattle.qm_grammar.specs.inner.Machine.{mark_byte}
use Rattle.qm_map.specs.inner.DueMark.{is_due}

-- a word of this byte is the mark that is due exactly where the byte is that mark's
abbrev IsTold : Mark → ℕ → Type 0
IsTold due byte = is_due due (word_sort (mark_of_byte byte)) ≡ (byte == mark_byte due)

told_at_marks : (due : Mark) → IsTold due 123 × IsTold due 125 × IsTold due 40 × IsTold due 41 × IsTold due 91 × IsTold due 93
unfolding mark_of_byte
told_at_marks OpenBrace = (refl, refl, refl, refl, refl, refl)
told_at_marks CloseBrace = (refl, refl, refl, refl, refl, refl)
told_at_marks OpenParenthesis = (refl, refl, refl, refl, refl, refl)
told_at_marks CloseParenthesis = (refl, refl, refl, refl, refl, refl)
told_at_marks OpenBracket = (refl, refl, refl, refl, refl, refl)
told_at_marks CloseBracket = (refl, refl, refl, refl, refl, refl)

-- a byte of no mark
record IsOther (byte : ℕ) : Type 0 where
  open_brace : byte ≢ 123
  close_brace : byte ≢ 125
  open_parenthesis : byte ≢ 40
  close_parenthesis : byte ≢ 41
  open_bracket : byte ≢ 91
  close_bracket : byte ≢ 93

no_mark : (byte : ℕ) → IsOther byte → mark_of_byte byte ≡ None
unfolding mark_of_byte
no_mark byte o = rw (ne_eqb byte 123 o.open_brace, ne_eqb byte 125 o.close_brace, ne_eqb byte 40 o.open_parenthesis, ne_eqb byte 41 o.close_parenthesis, ne_eqb byte 91 o.open_bracket, ne_eqb byte 93 o.close_bracket) refl

not_due : (due : Mark) (byte : ℕ) → IsOther byte → byte ≢ mark_byte due
not_due OpenBrace byte o = o.open_brace
not_due CloseBrace byte o = o.close_brace
not_due OpenParenthesis byte o = o.open_parenthesis
not_due CloseParenthesis byte o = o.close_parenthesis
not_due OpenBracket byte o = o.open_bracket
not_due CloseBracket byte o = o.close_bracket

told_at_other : (due : Mark) (byte : ℕ) → IsOther byte → IsTold due byte
told_at_other due byte o = rw (no_mark byte o, ne_eqb byte (mark_byte due) (not_due due byte o)) refl

pub told : (due : Mark) (byte : ℕ) → is_due due (word_sort (mark_of_byte byte)) ≡ (byte == mark_byte due)
told due byte =
    let marks = told_at_marks due in
    let at : (k : ℕ) → IsTold due k → byte ≡ k → IsTold due byte = λ k is e. subst (IsTold due) (sym e) is in
    ⊎_elim (at 123 marks.0) (λ a.
    ⊎_elim (at 125 marks.1) (λ b.
    ⊎_elim (at 40 marks.2) (λ c.
    ⊎_elim (at 41 marks.3) (λ d.
    ⊎_elim (at 91 marks.4) (λ e.
    ⊎_elim (at 93 marks.5) (λ f.
    told_at_other due byte (record {
      open_brace = a;
      close_brace = b;
      open_parenthesis = c;
      close_parenthesis = d;
      open_bracket = e;
      close_bracket = f;
    }))
    (cases_eq byte 93)) (cases_eq byte 91)) (cases_eq byte 41)) (cases_eq byte 40)) (cases_eq byte 125)) (cases_eq byte 123)

-- the same of a token of one byte
pub told_of_word : (due : Mark) (kind : TokenKind) (bytes : List ℕ) → kind ≡ Word → length bytes ≡ 1 → is_due due (sort_of (record { kind = kind; bytes = bytes })) ≡ (get_or bytes 0 0 == mark_byte due)
unfolding sort_of
told_of_word due kind (byte ∷ []) is one = rw is (told due byte)
told_of_word due kind [] is one = absurd (omega arith)
told_of_word due kind (a ∷ b ∷ bytes) is one = absurd (omega arith)
