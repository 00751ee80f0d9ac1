use Rattle.std.specs.Prelude.{ℕ, ◌+◌, Bool, true, ◌||◌, ◌==◌, List, take, drop, length, Option, Some, None, if◌then◌else◌}
use Rattle.std.specs.Char.{is_ascii_digit}
use Rattle.std.specs.List.{prefix_len}
use Rattle.qm_formats.specs.Layout.{Decoded, got, bad, Layout, recast, followed_by}
use Rattle.qm_formats.specs.Fields.{first_difference}

-- Numerals in a text, and the fixed bytes between them.

-- a digit, `-` or `.`
abbrev pub is_number_byte : ℕ → Bool
is_number_byte byte = is_ascii_digit byte || ((byte == 45) || (byte == 46))

-- the numeral with which a text begins: the longest run of such bytes
unfoldable pub numeral_ahead : List ℕ → List ℕ
numeral_ahead text = take (prefix_len is_number_byte text) text

-- how values are spelled: the numeral of each, which values have one, and the value of a numeral that is the numeral of one
pub record Spelling (X : Type 0) : Type 0 where
  pub numeral_of : X → List ℕ
  pub right : X → Bool
  pub value_of : List ℕ → Option X

-- the value, and where its numeral ends; where there is none, a fault at the numeral
abbrev pub spelled : {F X : Type 0} → F → ℕ → ℕ → Option X → Decoded F X
spelled fault at next (Some x) = got x next
spelled fault at next None = bad fault at

-- a value as a number: its numeral is the longest run of number bytes at its place
unfoldable pub numeral : {F X : Type 0} → F → Spelling X → Layout F X
numeral fault spelling =
    record {
      bytes_of = spelling.numeral_of;
      right = spelling.right;
      read = λ text at. spelled fault at (at + length (numeral_ahead (drop at text))) (spelling.value_of (numeral_ahead (drop at text)));
    }

-- fixed bytes; where others stand, there is a fault at the first of them
unfoldable pub literal : {F : Type 0} → F → List ℕ → Layout F (Unit {0})
literal fault bytes =
    record {
      bytes_of = λ _. bytes;
      right = λ _. true;
      read = λ text at. if first_difference bytes (drop at text) == length bytes then got tt (at + length bytes) else bad fault at;
    }

-- a value with fixed bytes behind it, and with fixed bytes before it
abbrev pub before : {F X : Type 0} → Layout F X → Layout F (Unit {0}) → Layout F X
before first last = recast (λ v. v.0) (λ x. (x, tt)) (followed_by first last)

abbrev pub behind : {F X : Type 0} → Layout F (Unit {0}) → Layout F X → Layout F X
behind first last = recast (λ v. v.1) (λ x. (tt, x)) (followed_by first last)
