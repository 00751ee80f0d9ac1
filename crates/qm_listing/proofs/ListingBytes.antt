-- The text of a listing that can stand in one is made of bytes.
use Rattle.std.proofs.Common.{◌≡◌, ◌<◌, ℕ, Bool, true, false, eqb, ltb, leb, ◌||◌, List, [], ◌∷◌, ◌++◌, length, codes, refl, sym, ap, ◌∙◌, arith}
use Rattle.std.specs.Prelude.{IsTrue}
use Rattle.std.specs.Char.{is_ascii_digit}
use Rattle.std.specs.List.{list_all}
use Rattle.std.proofs.lemmas.Bool.{and_parts, and_from, eqb-true, lt-ltb, leb-true}
use Rattle.qm_formats.specs.Fields.{AreBytes, are_bytes}
use Rattle.qm_formats.specs.Layout.{Layout, tested}
use Rattle.qm_formats.proofs.ExactFields.{bytes-are, bytes_behind}
use Rattle.qm_formats.proofs.InBytes.{IsInBytes, front_bytes, tested_in_bytes, part_in_bytes, last_part_in_bytes, many_in_bytes}
use Rattle.qm_listing.specs.declared.listing.Listing.{Listing}
use Rattle.qm_listing.specs.Numerals.{is_number_byte, Spelling, numeral, literal, before, behind}
use Rattle.qm_listing.specs.Numbers.{counts, coordinates}
use Rattle.qm_listing.specs.Grammar.{number, shape, header, due, number_before, first_line_layout, count_line_layout, points_layout, leaf0_layout, leaf1_layout, coordinate_layout, corner_layout, portal_layout, listing_layout, listing_text, can_stand}
use Rattle.qm_listing.proofs.ExactNumerals.{IsSpelling}
use Rattle.qm_listing.proofs.ExactNumbers.{counts_spelling, coordinates_spelling}

-- ---- numerals

small_by : (byte : ℕ) (digit minus point : Bool) → (digit ≡ true → byte < 256) → (minus ≡ true → byte < 256) → (point ≡ true → byte < 256) → (digit || (minus || point)) ≡ true → byte < 256
small_by byte true minus point of_digit of_minus of_point is = of_digit refl
small_by byte false true point of_digit of_minus of_point is = of_minus refl
small_by byte false false true of_digit of_minus of_point is = of_point refl
small_by byte false false false of_digit of_minus of_point is = absurd cc

small_digit : (byte : ℕ) → is_ascii_digit byte ≡ true → byte < 256
small_digit byte is = let e = leb-true byte 57 (and_parts (leb 48 byte) (leb byte 57) is).1 in omega (arith, e)

small_number_byte : (byte : ℕ) → is_number_byte byte ≡ true → byte < 256
small_number_byte byte is =
    small_by byte (is_ascii_digit byte) (eqb byte 45) (eqb byte 46) (small_digit byte)
    (λ same. let e = eqb-true byte 45 same in omega (arith, e)) (λ same. let e = eqb-true byte 46 same in omega (arith, e)) is

number_bytes : (numeral : List ℕ) → list_all is_number_byte numeral ≡ true → are_bytes numeral ≡ true
number_bytes [] all = refl
number_bytes (byte ∷ numeral) all =
    let both = and_parts (is_number_byte byte) (list_all is_number_byte numeral) all in
    and_from (ltb byte 256) (are_bytes numeral) (lt-ltb byte 256 (small_number_byte byte both.0)) (number_bytes numeral both.1)

-- ---- parts

module _ {F : Type 0} where
  literal_in_bytes : (fault : F) (bytes : List ℕ) → are_bytes bytes ≡ true → IsInBytes (literal fault bytes)
  unfolding literal
  literal_in_bytes fault bytes are = record { are = λ x right. are }

  numeral_in_bytes : {X : Type 0} (fault : F) (spelling : Spelling X) → IsSpelling spelling → IsInBytes (numeral fault spelling)
  unfolding numeral
  numeral_in_bytes fault spelling is = record { are = λ x right. number_bytes (spelling.numeral_of x) (is.bytes x right) }

  before_in_bytes : {X : Type 0} (first : Layout F X) (last : Layout F (Unit {0})) → IsInBytes first → IsInBytes last → IsInBytes (before first last)
  before_in_bytes first last of_first of_last = record {
    are = λ x right.
        let both = and_parts (first.right x) (last.right tt) right in
        bytes_behind (first.bytes_of x) (last.bytes_of tt) (of_first.are x both.0) (of_last.are tt both.1);
  }

  behind_in_bytes : {X : Type 0} (first : Layout F (Unit {0})) (last : Layout F X) → IsInBytes first → IsInBytes last → IsInBytes (behind first last)
  behind_in_bytes first last of_first of_last = record {
    are = λ x right.
        let both = and_parts (first.right tt) (last.right x) right in
        bytes_behind (first.bytes_of tt) (last.bytes_of x) (of_first.are tt both.0) (of_last.are x both.1);
  }

-- ---- the listing

due_in_bytes : (byte : ℕ) → byte < 256 → IsInBytes (due byte)
due_in_bytes byte small = literal_in_bytes shape (byte ∷ []) (and_from (ltb byte 256) true (lt-ltb byte 256 small) refl)

number_in_bytes : {X : Type 0} (spelling : Spelling X) → IsSpelling spelling → (test : X → Bool) (byte : ℕ) → byte < 256 → IsInBytes (number_before spelling test byte)
number_in_bytes spelling is test byte small =
    before_in_bytes (tested test shape (λ _ at. at) (numeral number spelling)) (due byte) (tested_in_bytes test shape (λ _ at. at) (numeral number spelling) (numeral_in_bytes number spelling is)) (due_in_bytes byte small)

first_line_in_bytes : IsInBytes first_line_layout
unfolding first_line_layout
first_line_in_bytes = literal_in_bytes header (codes "PRT1" ++ 10 ∷ []) refl

count_line_in_bytes : IsInBytes count_line_layout
unfolding count_line_layout
count_line_in_bytes = number_in_bytes counts counts_spelling _ 10 (omega arith)

points_in_bytes : IsInBytes points_layout
unfolding points_layout
points_in_bytes = number_in_bytes counts counts_spelling _ 32 (omega arith)

leaf0_in_bytes : (leaves : ℕ) → IsInBytes (leaf0_layout leaves)
unfolding leaf0_layout
leaf0_in_bytes leaves = number_in_bytes counts counts_spelling _ 32 (omega arith)

leaf1_in_bytes : (leaves leaf0 : ℕ) → IsInBytes (leaf1_layout leaves leaf0)
unfolding leaf1_layout
leaf1_in_bytes leaves leaf0 = number_in_bytes counts counts_spelling _ 32 (omega arith)

corner_in_bytes : IsInBytes corner_layout
unfolding corner_layout coordinate_layout
corner_in_bytes =
    behind_in_bytes _ _ (due_in_bytes 40 (omega arith))
    (before_in_bytes _ _ (before_in_bytes _ _ (many_in_bytes coordinate_layout (number_in_bytes coordinates coordinates_spelling _ 32 (omega arith)) 3) (due_in_bytes 41 (omega arith))) (due_in_bytes 32 (omega arith)))

portal_in_bytes : (leaves : ℕ) → IsInBytes (portal_layout leaves)
unfolding portal_layout
portal_in_bytes leaves =
    part_in_bytes (λ found. length found.corners) _ _ points_in_bytes (λ points.
    part_in_bytes (λ found. found.leaf0) _ _ (leaf0_in_bytes leaves) (λ leaf0.
    part_in_bytes (λ found. found.leaf1) _ _ (leaf1_in_bytes leaves leaf0) (λ leaf1.
    last_part_in_bytes (λ found. found.corners) _ _ (before_in_bytes _ _ (many_in_bytes corner_layout corner_in_bytes points) (due_in_bytes 10 (omega arith))))))

listing_in_bytes : IsInBytes listing_layout
unfolding listing_layout
listing_in_bytes =
    part_in_bytes (λ _. tt) first_line_layout _ first_line_in_bytes (λ line.
    part_in_bytes (λ found. found.leaves) _ _ count_line_in_bytes (λ leaves.
    part_in_bytes (λ found. length found.portals) _ _ count_line_in_bytes (λ count.
    last_part_in_bytes (λ found. found.portals) _ _ (many_in_bytes (portal_layout leaves) (portal_in_bytes leaves) count))))

-- the first bytes of the text of a listing
pub first_bytes_are : (listing : Listing) (front behind : List ℕ) → IsTrue (can_stand listing) → listing_text listing ≡ front ++ behind → AreBytes front
unfolding can_stand listing_text
first_bytes_are listing front behind can is =
    bytes-are front (front_bytes front behind (ap are_bytes (sym is) ∙ listing_in_bytes.are listing can))
