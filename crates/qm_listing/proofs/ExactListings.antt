-- The text of a listing is read exactly.
use Rattle.std.proofs.Common.{◌≡◌, ℕ, true, eqb, ltb, leb, not, ◌&&◌, List, [], ◌∷◌, ◌++◌, length, refl, sym}
use Rattle.std.proofs.lemmas.Bool.{and_parts}
use Rattle.std.specs.Prelude.{codes}
use Rattle.qm_formats.specs.Layout.{many}
use Rattle.qm_formats.specs.Exact.{IsExact}
use Rattle.qm_formats.proofs.ExactParts.{part_exact, last_part_exact, IsAny, exact_of_parts, each_exact}
use Rattle.qm_formats.proofs.ExactFile.{right_each_length}
use Rattle.qm_listing.specs.declared.listing.Coordinate.{Coordinate}
use Rattle.qm_listing.specs.Numerals.{before}
use Rattle.qm_listing.specs.Numbers.{counts, coordinates}
use Rattle.qm_listing.specs.Grammar.{header, number, shape, due, first_line_layout, count_line_layout, points_layout, leaf0_layout, leaf1_layout, coordinate_layout, corner_layout, portal_layout, listing_layout}
use Rattle.qm_listing.proofs.ExactNumerals.{literal_exact, numeral_exact, before_exact, behind_exact}
use Rattle.qm_listing.proofs.ExactNumbers.{counts_spelling, coordinates_spelling}

due_exact : (byte : ℕ) → IsExact (due byte)
due_exact byte = literal_exact shape (byte ∷ [])

pub header_exact : IsExact first_line_layout
unfolding first_line_layout
header_exact = literal_exact header (codes "PRT1" ++ 10 ∷ [])

pub count_line_exact : IsExact count_line_layout
unfolding count_line_layout
count_line_exact = numeral_exact number shape counts counts_spelling (λ _. true) 10 refl

pub points_exact : IsExact points_layout
unfolding points_layout
points_exact = numeral_exact number shape counts counts_spelling (leb 3) 32 refl

pub leaf0_exact : (leaves : ℕ) → IsExact (leaf0_layout leaves)
unfolding leaf0_layout
leaf0_exact leaves = numeral_exact number shape counts counts_spelling (λ leaf. ltb leaf leaves) 32 refl

pub leaf1_exact : (leaves leaf0 : ℕ) → IsExact (leaf1_layout leaves leaf0)
unfolding leaf1_layout
leaf1_exact leaves leaf0 = numeral_exact number shape counts counts_spelling (λ leaf. ltb leaf leaves && not (eqb leaf leaf0)) 32 refl

pub coordinate_exact : IsExact coordinate_layout
unfolding coordinate_layout
coordinate_exact = numeral_exact number shape coordinates coordinates_spelling (λ _. true) 32 refl

pub corner_exact : IsExact corner_layout
unfolding corner_layout
corner_exact =
    behind_exact _ _ (due_exact 40) (before_exact _ _ (before_exact _ _ (each_exact (λ _. coordinate_layout) (λ _. coordinate_exact) 0 3) (due_exact 41)) (due_exact 32))

-- right corners are as many as are due
corner_count : (points : ℕ) (corners : List (List Coordinate)) → (before (many corner_layout points) (due 10)).right corners ≡ true → length corners ≡ points
corner_count points corners right =
    right_each_length (λ _. corner_layout) 0 points corners (and_parts ((many corner_layout points).right corners) ((due 10).right tt) right).0

pub portal_exact : (leaves : ℕ) → IsExact (portal_layout leaves)
unfolding portal_layout
portal_exact leaves =
    exact_of_parts _ (
    part_exact _ _ _ _ points_exact (λ points _.
    part_exact _ _ _ _ (leaf0_exact leaves) (λ leaf0 _.
    part_exact _ _ _ _ (leaf1_exact leaves leaf0) (λ leaf1 _.
    last_part_exact _ _ _ _ (before_exact _ _ (each_exact (λ _. corner_layout) (λ _. corner_exact) 0 points) (due_exact 10)) (λ corners right. record {
      before = record { before = record { before = record { before = tt; is = corner_count points corners right }; is = refl }; is = refl };
      is = refl;
    }) (λ found known. λ i. record { leaf0 = sym known.before.is i; leaf1 = sym known.is i; corners = found.corners })))))

pub listing_exact : IsExact listing_layout
unfolding listing_layout
listing_exact =
    exact_of_parts _ (
    part_exact IsAny (λ _. tt) first_line_layout _ header_exact (λ line _.
    part_exact _ (λ found. found.leaves) count_line_layout _ count_line_exact (λ leaves _.
    part_exact _ (λ found. length found.portals) count_line_layout _ count_line_exact (λ count _.
    last_part_exact _ (λ found. found.portals) (many (portal_layout leaves) count) (λ portals. record { leaves = leaves; portals = portals }) (each_exact (λ _. portal_layout leaves) (λ _. portal_exact leaves) 0 count) (λ portals right. record {
      before = record { before = record { before = record { before = tt; is = refl }; is = refl }; is = right_each_length (λ _. portal_layout leaves) 0 count portals right };
      is = refl;
    }) (λ found known. λ i. record { leaves = sym known.before.is i; portals = found.portals })))))
