use Rattle.std.specs.Prelude.{ℕ, Bool, true, not, ◌&&◌, ◌==◌, nat_lt, nat_le, List, [], ◌∷◌, ◌++◌, length, codes}
use Rattle.qm_listing.specs.declared.listing.Coordinate.{Coordinate}
use Rattle.qm_listing.specs.declared.listing.PrtPortal.{PrtPortal}
use Rattle.qm_listing.specs.declared.listing.Listing.{Listing}
use Rattle.qm_formats.specs.Layout.{Decoded, Layout, tested, part, last_part, many, read_to_end}
use Rattle.qm_listing.specs.Numerals.{Spelling, numeral, literal, before, behind}
use Rattle.qm_listing.specs.Numbers.{counts, coordinates}

-- The text of a listing: a line `PRT1`, a line with the count of leaves, one with that of portals, and a line for each
-- portal: how many corners it has, its leaves, and each corner as `(x y z )`, with a space behind each.

-- What is wrong in a listing.
pub data ListingFaultKind : Type 0 where
  header : ListingFaultKind
  number : ListingFaultKind
  shape : ListingFaultKind
  trailing : ListingFaultKind

-- one byte that is due
abbrev pub due : ℕ → Layout ListingFaultKind (Unit {0})
due byte = literal shape (byte ∷ [])

-- a number that passes a test, and a byte behind it
abbrev pub number_before : {X : Type 0} → Spelling X → (X → Bool) → ℕ → Layout ListingFaultKind X
number_before spelling test byte = before (tested test shape (λ _ at. at) (numeral number spelling)) (due byte)

-- the first line: `PRT1`
unfoldable pub first_line_layout : Layout ListingFaultKind (Unit {0})
first_line_layout = literal header (codes "PRT1" ++ 10 ∷ [])

-- a count on a line of its own
unfoldable pub count_line_layout : Layout ListingFaultKind ℕ
count_line_layout = number_before counts (λ _. true) 10

-- how many corners a portal has: at least three
unfoldable pub points_layout : Layout ListingFaultKind ℕ
points_layout = number_before counts (nat_le 3) 32

-- the number of a leaf
unfoldable pub leaf0_layout : ℕ → Layout ListingFaultKind ℕ
leaf0_layout leaves = number_before counts (λ leaf. nat_lt leaf leaves) 32

-- the number of another leaf
unfoldable pub leaf1_layout : ℕ → ℕ → Layout ListingFaultKind ℕ
leaf1_layout leaves leaf0 = number_before counts (λ leaf. nat_lt leaf leaves && not (leaf == leaf0)) 32

-- a coordinate, and a space behind it
unfoldable pub coordinate_layout : Layout ListingFaultKind Coordinate
coordinate_layout = number_before coordinates (λ _. true) 32

-- three coordinates between brackets, and a space behind them
unfoldable pub corner_layout : Layout ListingFaultKind (List Coordinate)
corner_layout = behind (due 40) (before (before (many coordinate_layout 3) (due 41)) (due 32))

-- the line of a portal between two of so many leaves
unfoldable pub portal_layout : ℕ → Layout ListingFaultKind PrtPortal
portal_layout leaves =
    part (λ found. length found.corners) points_layout (λ points.
    part (λ found. found.leaf0) (leaf0_layout leaves) (λ leaf0.
    part (λ found. found.leaf1) (leaf1_layout leaves leaf0) (λ leaf1.
    last_part (λ found. found.corners) (before (many corner_layout points) (due 10)) (λ corners. record { leaf0 = leaf0; leaf1 = leaf1; corners = corners }))))

-- the whole text
unfoldable pub listing_layout : Layout ListingFaultKind Listing
listing_layout =
    part (λ _. tt) first_line_layout (λ _.
    part (λ found. found.leaves) count_line_layout (λ leaves.
    part (λ found. length found.portals) count_line_layout (λ count.
    last_part (λ found. found.portals) (many (portal_layout leaves) count) (λ portals. record { leaves = leaves; portals = portals }))))

-- the text of a listing
unfoldable pub listing_text : Listing → List ℕ
listing_text = listing_layout.bytes_of

-- whether a listing has a text
unfoldable pub can_stand : Listing → Bool
can_stand = listing_layout.right

-- what is read of a text: a listing with nothing behind it, or the first fault in the order of the text, with its place
unfoldable pub read_listing : List ℕ → Decoded ListingFaultKind Listing
read_listing = read_to_end listing_layout trailing
