-- What the tests on bytes say: whether all are digits, and whether all are `0`.
use Rattle.std.proofs.Common.{◌≡◌, ◌⊎◌, inl, inr, ℕ, suc, Bool, true, false, ◌&&◌, eqb, List, [], ◌∷◌, refl, sym, ◌∙◌, ap, subst, arith}
use Rattle.std.specs.Char.{is_ascii_digit}
use Rattle.std.specs.List.{list_all, Any}
use Rattle.std.specs.Str.{all_ascii_digits}
use Rattle.std.specs.Str.Parse.{AllDigits}
use Rattle.std.proofs.lemmas.Str.Parse.{numerals_by_value, tells_all_ascii_digits}
use Rattle.qm_numerals.proofs.Scaling.{order}

same_test : (ds : List ℕ) → list_all is_ascii_digit ds ≡ all_ascii_digits ds
same_test [] = refl
same_test (x ∷ ds) = ap (λ (b : Bool). is_ascii_digit x && b) (same_test ds)

pub digits_from_test : (ds : List ℕ) → list_all is_ascii_digit ds ≡ true → AllDigits 10 ds
digits_from_test ds e = (numerals_by_value (λ ds. all_ascii_digits ds ≡ true) tells_all_ascii_digits).to ds (sym (same_test ds) ∙ e)

pub test_from_digits : (ds : List ℕ) → AllDigits 10 ds → list_all is_ascii_digit ds ≡ true
test_from_digits ds h = same_test ds ∙ (numerals_by_value (λ ds. all_ascii_digits ds ≡ true) tells_all_ascii_digits).from ds h

zero_or_other : (x : ℕ) → (x ≡ 48) ⊎ (x ≡ 48 → ⊥)
zero_or_other x = elim (order x 48) [
  | inl low ↦ elim (order 48 x) [ inl high ↦ inl (omega arith) | inr below ↦ inr (λ e. omega arith) ]
  | inr above ↦ inr (λ e. omega arith)
]

later : (x : ℕ) (ds : List ℕ) → Any (λ byte. byte ≡ 48 → ⊥) ds → Any (λ byte. byte ≡ 48 → ⊥) (x ∷ ds)
later x ds h = (suc h.0, h.1, omega (arith, h.2), h.3, h.4)

pub other_from_test : (ds : List ℕ) → list_all (λ byte. eqb byte 48) ds ≡ false → Any (λ byte. byte ≡ 48 → ⊥) ds
other_from_test [] e = cc
other_from_test (x ∷ ds) e = elim (zero_or_other x) [
  | inl same ↦ later x ds (other_from_test ds (subst (λ (y : ℕ). list_all (λ byte. eqb byte 48) (y ∷ ds) ≡ false) same e))
  | inr other ↦ (0, x, omega arith, refl, other)
]
