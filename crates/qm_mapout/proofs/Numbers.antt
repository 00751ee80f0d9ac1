-- A coordinate that is printed is a word that spells this coordinate.
use Rattle.std.proofs.Common.{◌≡◌, ◌<◌, ◌≤◌, ℕ, suc, ◌/◌, ◌%◌, ℤ, pos, negsuc, List, [], ◌∷◌, ◌++◌, None, refl, arith, rules, length, length-append, lit≤, decimal}
use Rattle.std.specs.Prelude.{All}
use Rattle.std.specs.Char.{digit_value}
use Rattle.std.specs.Str.Parse.{AllDigits}
use Rattle.std.proofs.lemmas.Fmt.{decimal_is_IsNumeral}
use Rattle.std.proofs.lemmas.Str.Parse.{digit_from_value}
use Rattle.std.proofs.lemmas.List.Elements.{All-nil, All-cons, All-append}
use Rattle.qm_space.specs.Bounds.{thousandths_bound}
use Rattle.qm_space.specs.Point.{IsThousandths}
use Rattle.qm_space.proofs.CoordinateSizes.{thousandths_small}
use Rattle.qm_numerals.specs.Number.{missing, minus}
use Rattle.qm_numerals.specs.Printed.{decimals_of_thousandths, with_point, thousandths_text, signed_thousandths}
use Rattle.qm_numerals.proofs.Thousandths.{thousandths_unsigned, thousandths_value}
use Rattle.qm_tokens.specs.Piece.{OpensWord}
use Rattle.qm_grammar.specs.Symbol.{mark_of, mark_of_byte}
use Rattle.qm_grammar.specs.Number.{SpellsCoordinate}

no_mark_byte : (d : ℕ) → 48 ≤ d → d ≤ 57 → mark_of_byte d ≡ None
unfolding mark_of_byte
no_mark_byte d low high = search rules

-- ---- a text that a digit begins

digit_no_mark : (d : ℕ) (rest : List ℕ) → digit_value d < 10 → mark_of (d ∷ rest) ≡ None
digit_no_mark d [] digit = let range = digit_from_value d digit in no_mark_byte d range.0 range.1
digit_no_mark d (e ∷ rest) digit = refl

digit_opens : (d : ℕ) (rest : List ℕ) → digit_value d < 10 → OpensWord (d ∷ rest)
digit_opens d [] digit = let range = digit_from_value d digit in λ e. omega (arith, range.0, range.1, e)
digit_opens d (f ∷ rest) digit =
    let range = digit_from_value d digit in
    (λ e. omega (arith, range.0, range.1, e), λ e. absurd (omega (arith, range.0, range.1, e)))

first_no_mark : (digits tail : List ℕ) → 0 < length digits → AllDigits 10 digits → mark_of (digits ++ tail) ≡ None
first_no_mark [] tail some are = absurd (omega (arith, some))
first_no_mark (d ∷ digits) tail some are = digit_no_mark d (digits ++ tail) are.0

first_opens : (digits tail : List ℕ) → 0 < length digits → AllDigits 10 digits → OpensWord (digits ++ tail)
first_opens [] tail some are = absurd (omega (arith, some))
first_opens (d ∷ digits) tail some are = digit_opens d (digits ++ tail) are.0

-- ---- and one that `-` begins

signed_no_mark : (ds : List ℕ) → 0 < length ds → mark_of (45 ∷ ds) ≡ None
signed_no_mark [] some = absurd (omega (arith, some))
signed_no_mark (d ∷ ds) some = refl

minus_opens : (ds : List ℕ) → OpensWord (45 ∷ ds)
minus_opens [] = λ e. omega (arith, e)
minus_opens (d ∷ ds) = (λ e. omega (arith, e), λ e. absurd (omega (arith, e)))

-- ---- bytes that can be seen

digits_visible : (ds : List ℕ) → AllDigits 10 ds → All (λ byte. 32 < byte) ds
digits_visible [] digits = All-nil (λ byte. 32 < byte)
digits_visible (d ∷ ds) digits =
    let range = digit_from_value d digits.0 in
    All-cons (λ byte. 32 < byte) d ds (omega (arith, range.0)) (digits_visible ds digits.1)

point_visible : (decimals : List ℕ) → AllDigits 10 decimals → All (λ byte. 32 < byte) (with_point decimals)
point_visible [] digits = All-nil (λ byte. 32 < byte)
point_visible (d ∷ ds) digits = All-cons (λ byte. 32 < byte) 46 (d ∷ ds) (lit≤ tt) (digits_visible (d ∷ ds) digits)

-- ---- the text of a coordinate

-- what is true of the text of a coordinate
pub record IsNumberText (text : List ℕ) (n : ℤ) : Type 0 where
  pub spelled : SpellsCoordinate text n
  pub no_mark : mark_of text ≡ None
  pub opens : OpensWord text
  pub visible : All (λ byte. 32 < byte) text

module _ (n : ℕ) (small : n ≤ thousandths_bound) where
  some_digit : 0 < length (decimal (n / 1000))
  some_digit = let numeral = decimal_is_IsNumeral (n / 1000) (omega (arith, small)) in numeral.0.0

  plain_no_mark : mark_of (thousandths_text n) ≡ None
  unfolding thousandths_text
  plain_no_mark =
      let parts = thousandths_unsigned n (omega (arith, small)) in
      first_no_mark (decimal (n / 1000)) (with_point (decimals_of_thousandths (n % 1000))) some_digit parts.whole_digits

  plain_opens : OpensWord (thousandths_text n)
  unfolding thousandths_text
  plain_opens =
      let parts = thousandths_unsigned n (omega (arith, small)) in
      first_opens (decimal (n / 1000)) (with_point (decimals_of_thousandths (n % 1000))) some_digit parts.whole_digits

  plain_visible : All (λ byte. 32 < byte) (thousandths_text n)
  unfolding thousandths_text
  plain_visible =
      let parts = thousandths_unsigned n (omega (arith, small)) in
      All-append (λ byte. 32 < byte) (decimal (n / 1000)) (with_point (decimals_of_thousandths (n % 1000)))
      (digits_visible (decimal (n / 1000)) parts.whole_digits) (point_visible (decimals_of_thousandths (n % 1000)) parts.decimal_digits)

  plain_some : 0 < length (thousandths_text n)
  unfolding thousandths_text
  plain_some = let some = some_digit in omega (arith, length-append (decimal (n / 1000)) (with_point (decimals_of_thousandths (n % 1000))))

plain_number : (n : ℕ) → IsThousandths (pos n) → n ≤ thousandths_bound → IsNumberText (thousandths_text n) (pos n)
plain_number n range small = record {
  spelled = record { spelled = thousandths_value n (omega (arith, small)) missing; in_range = range };
  no_mark = plain_no_mark n small;
  opens = plain_opens n small;
  visible = plain_visible n small;
}

minus_number : (k : ℕ) → IsThousandths (negsuc k) → suc k ≤ thousandths_bound → IsNumberText (45 ∷ thousandths_text (suc k)) (negsuc k)
minus_number k range small = record {
  spelled = record { spelled = thousandths_value (suc k) (omega (arith, small)) minus; in_range = range };
  no_mark = signed_no_mark (thousandths_text (suc k)) (plain_some (suc k) small);
  opens = minus_opens (thousandths_text (suc k));
  visible = All-cons (λ byte. 32 < byte) 45 (thousandths_text (suc k)) (lit≤ tt) (plain_visible (suc k) small);
}

pub number_text : (n : ℤ) → IsThousandths n → IsNumberText (signed_thousandths n) n
unfolding signed_thousandths
number_text (pos n) range = plain_number n range (thousandths_small (pos n) range)
number_text (negsuc k) range = minus_number k range (thousandths_small (negsuc k) range)
