-- The listing of a world has a text.
use Rattle.std.proofs.Common.{◌≡◌, ◌<◌, ◌≤◌, ℕ, zero, suc, ◌+◌, ◌*◌, ◌/◌, ◌%◌, ◌^◌, ℤ, pos, negsuc, ◌<ℤ◌, Bool, true, false, not, ◌&&◌, ◌||◌, eqb, leb, ltb, List, [], ◌∷◌, ◌++◌, length, flat_map, decimal, All, Contains, Some, get_or, slice_get, refl, sym, ap, subst, ◌∙◌, arith}
use Rattle.std.proofs.lemmas.Int.{ints}
use Rattle.std.specs.Prelude.{IsTrue, unsigned_abs, codes}
use Rattle.std.proofs.lemmas.Bool.{and_from, lt-ltb, le-leb, eq-eqb, eqb-true}
use Rattle.std.proofs.lemmas.List.{length-append}
use Rattle.std.proofs.lemmas.List.Elements.{All-nil, All-cons, All-head, All-tail, All-get_or, All-from_get_or}
use Rattle.std.proofs.lemmas.List.FromFn.{get_or-map-range_with_len, length-map-range_with_len}
use Rattle.std.proofs.lemmas.Option.{get_or_from_slice_get, slice_get-get_or, slice_get_within}
use Rattle.qm_lists.proofs.Cases.{by_cases}
use Rattle.qm_numerals.specs.Printed.{millionths}
use Rattle.qm_numbers.specs.Sign.{is_negative}
use Rattle.qm_space.specs.Point.{Point}
use Rattle.qm_space.specs.Cube.{IsUpToExtent, IsInClosedCube}
use Rattle.qm_space.proofs.CubeDistances.{up_to_extent}
use Rattle.qm_convex.specs.Winding.{Winding, corner_at}
use Rattle.qm_convex.specs.World.{IsInWorld}
use Rattle.qm_convex.proofs.Squares.{corner_in_closed_cube}
use Rattle.qm_partition.specs.Tree.{Tree}
use Rattle.qm_contacts.specs.Meeting.{meetings}
use Rattle.qm_contacts.specs.NumberedLeaves.{numbered_leaves}
use Rattle.qm_contacts.specs.Touching.{Touching, AreTouchings}
use Rattle.qm_contacts.specs.Portals.{Portal, leaf_number, is_passage, portal, portals_of}
use Rattle.qm_contacts.specs.OwnPortals.{HasOwnPortals}
use Rattle.qm_contacts.specs.World.{World}
use Rattle.qm_contacts.proofs.FilledLeaves.{portal_back}
use Rattle.qm_contacts.proofs.Numbers.{leaf_at_number}
use Rattle.qm_contacts.proofs.Passages.{leaves_there, passage_is_portal}
use Rattle.qm_contacts.proofs.PortalLists.{each_portal}
use Rattle.qm_contacts.proofs.Touchings.{meeting_of_touching, touching_in_world}
use Rattle.qm_formats.specs.Layout.{Layout, bytes_of_each, right_each}
use Rattle.qm_formats.proofs.RightParts.{right_each_from}
use Rattle.qm_listing.specs.declared.listing.Coordinate.{Coordinate}
use Rattle.qm_listing.specs.declared.listing.PrtPortal.{PrtPortal}
use Rattle.qm_listing.specs.declared.listing.Listing.{Listing}
use Rattle.qm_listing.specs.Numerals.{numeral, literal}
use Rattle.qm_listing.specs.Numbers.{with_sign, coordinate_numeral, is_coordinate}
use Rattle.qm_listing.specs.Grammar.{ListingFaultKind, first_line_layout, count_line_layout, points_layout, leaf0_layout, leaf1_layout, coordinate_layout, corner_layout, portal_layout, listing_layout, listing_text, can_stand}
use Rattle.qm_listing.specs.WorldListing.{coordinate_at, coordinates_at, place_back, corners_back, IsLineOf, IsListingOf}
use Rattle.qm_listing.proofs.CornersBack.{place_back-within}
use Rattle.qm_listing.proofs.PortalLines.{portal_bytes}
use Rattle.qm_listing.proofs.RoundedCoordinates.{whole_millionths, most_millionths_of, own_magnitude}

-- ---- tests

then_true : (b : Bool) → b ≡ true → (b && true) ≡ true
then_true b is = and_from b true is refl

not_same : (a b : ℕ) → (a ≡ b → ⊥) → not (eqb a b) ≡ true
not_same a b apart = by_cases (eqb a b) (λ yes. absurd (apart (eqb-true a b yes))) (λ no. ap not no)

-- ---- coordinates of a point in the closed cube

some_weight : (w : ℤ) → pos 0 <ℤ w → 0 < unsigned_abs w
some_weight w some = omega (arith, ints)

no_decimals : (whole : Bool) (n : ℕ) → (whole ≡ true → n % 1000000 ≡ 0) → (not whole || eqb (n % 1000000) 0) ≡ true
no_decimals false n none = refl
no_decimals true n none = eq-eqb (n % 1000000) 0 (none refl)

whole_value : (n d m : ℕ) → 0 < d → m ≡ millionths n d → eqb (n % d) 0 ≡ true → m % 1000000 ≡ 0
whole_value n d m some is whole =
    let value : m ≡ n / d * 1000000 = is ∙ whole_millionths n d some (eqb-true (n % d) 0 whole) in
    omega (arith, value)

coordinate_right : (over under : ℤ) → pos 0 <ℤ under → IsUpToExtent over under → is_coordinate (coordinate_at over under) ≡ true
unfolding is_coordinate coordinate_at
coordinate_right over under some up =
    let n = unsigned_abs over in
    let d = unsigned_abs under in
    let z = with_sign (is_negative over) (millionths n d) in
    let magnitude : unsigned_abs z ≡ millionths n d = own_magnitude (is_negative over) (millionths n d) in
    let most = most_millionths_of n d 32768 (up_to_extent over under some up) (some_weight under some) in
    and_from (leb (unsigned_abs z) (32768 * 1000000)) (not (eqb (n % d) 0) || eqb (unsigned_abs z % 1000000) 0)
    (le-leb (unsigned_abs z) (32768 * 1000000) (omega (arith, magnitude, most)))
    (no_decimals (eqb (n % d) 0) (unsigned_abs z) (whole_value n d (unsigned_abs z) (some_weight under some) magnitude))

-- ---- a corner, which has three

-- each of three tests is passed
three_passed : (a b c : Bool) → a ≡ true → b ≡ true → c ≡ true → ((((a && true) && true) && (((b && true) && true) && (((c && true) && true) && true))) && true) && true ≡ true
three_passed true true true first second third = refl
three_passed false b c first second third = absurd cc
three_passed true false c first second third = absurd cc
three_passed true true false first second third = absurd cc

corner_right : (p : Point) → IsInClosedCube p → corner_layout.right (coordinates_at p) ≡ true
unfolding corner_layout coordinate_layout numeral literal
corner_right p inside =
    three_passed (is_coordinate (coordinate_at p.x p.w)) (is_coordinate (coordinate_at p.y p.w)) (is_coordinate (coordinate_at p.z p.w))
    (coordinate_right p.x p.w inside.weight inside.x) (coordinate_right p.y p.w inside.weight inside.y) (coordinate_right p.z p.w inside.weight inside.z)

-- brackets and spaces
corner_bytes : (a b c : Coordinate) → 6 ≤ length (corner_layout.bytes_of (a ∷ b ∷ c ∷ []))
unfolding corner_layout coordinate_layout numeral literal
corner_bytes a b c =
    let x = coordinate_numeral a in
    let y = coordinate_numeral b in
    let z = coordinate_numeral c in
    let space = 32 ∷ [] in
    let third = (z ++ space) ++ [] in
    let second = (y ++ space) ++ third in
    let inner = (x ++ space) ++ second in
    omega (arith, length-append (inner ++ 41 ∷ []) space, length-append inner (41 ∷ []), length-append (x ++ space) second, length-append x space, length-append (y ++ space) third, length-append y space, length-append (z ++ space) [], length-append z space)

-- ---- what holds of a portal whose line has a text

record CanBeListed (leaves : ℕ) (portal : Portal) : Type 0 where
  in_world : IsInWorld portal.winding
  from : portal.from < leaves
  to : portal.to < leaves
  apart : portal.from ≡ portal.to → ⊥

module _ (tree : Tree) (touchings : List Touching) (are : AreTouchings tree.planes (meetings tree) touchings) where
  abbrev numbered : List ℕ
  numbered = numbered_leaves tree

  numbers_apart : (a b : ℕ) → a < b → slice_get numbered (leaf_number tree a) ≡ Some a → slice_get numbered (leaf_number tree b) ≡ Some b → leaf_number tree a ≡ leaf_number tree b → ⊥
  numbers_apart a b less at_a at_b same =
      let both : Some a ≡ Some b = sym at_a ∙ ap (slice_get numbered) same ∙ at_b in
      let one : a ≡ b = cc in
      omega (arith, less, one)

  both_listed : (found : Touching) → Contains touchings found → is_passage tree found ≡ true → CanBeListed (length numbered) (portal tree found false found.front found.back) × CanBeListed (length numbered) (portal tree found true found.back found.front)
  both_listed found listed test =
      let m = meeting_of_touching tree.planes (meetings tree) touchings found are listed in
      let in_world = touching_in_world tree.planes m.0 found m.2 in
      let order = (leaves_there tree touchings are found listed).0 in
      let is = passage_is_portal tree touchings are found listed test in
      let again = portal_back tree found.front found.back is in
      let front = leaf_at_number tree found.front is.from is.from_is is.numbered in
      let back = leaf_at_number tree found.back again.from again.from_is again.numbered in
      let front_within = slice_get_within numbered (leaf_number tree found.front) found.front front in
      let back_within = slice_get_within numbered (leaf_number tree found.back) found.back back in
      let apart = numbers_apart found.front found.back order front back in (
        record { in_world = in_world; from = front_within; to = back_within; apart = apart },
        record { in_world = in_world; from = back_within; to = front_within; apart = λ same. apart (sym same) },
      )

  all_listed : All (CanBeListed (length numbered)) (portals_of tree touchings)
  all_listed = each_portal tree (CanBeListed (length numbered)) touchings both_listed

own_listed : (world : World) → HasOwnPortals world → All (CanBeListed (length (numbered_leaves world.tree))) world.portals
own_listed world own = subst (All (CanBeListed (length (numbered_leaves world.tree)))) (sym own.portals_are) (all_listed world.tree own.touchings own.are_touchings)

-- ---- the line of such a portal

record IsFitLine (leaves : ℕ) (line : PrtPortal) : Type 0 where
  portal : Portal
  can : CanBeListed leaves portal
  is_line : IsLineOf portal line

module _ (leaves : ℕ) (line : PrtPortal) (fit : IsFitLine leaves line) where
  abbrev w : Winding
  w = fit.portal.winding

  abbrev count : ℕ
  count = length fit.portal.winding.edges

  many_corners : length line.corners ≡ count
  unfolding corners_back
  many_corners = ap length fit.is_line.corners ∙ length-map-range_with_len (λ i. coordinates_at (corner_at w (place_back count fit.is_line.first i))) 0 count

  corner_there : (i : ℕ) (d : List Coordinate) → i < length line.corners → get_or line.corners i d ≡ coordinates_at (corner_at w (place_back count fit.is_line.first i))
  unfolding corners_back
  corner_there i d within =
      ap (λ (cs : List (List Coordinate)). get_or cs i d) fit.is_line.corners
      ∙ get_or-map-range_with_len (λ k. coordinates_at (corner_at w (place_back count fit.is_line.first k))) 0 count i i d (omega (arith, within, many_corners)) (omega arith)

  corner_inside : (i : ℕ) → i < length line.corners → IsInClosedCube (corner_at w (place_back count fit.is_line.first i))
  corner_inside i within = corner_in_closed_cube w fit.can.in_world (place_back count fit.is_line.first i) (place_back-within count fit.is_line.first i fit.is_line.first_is.within (omega (arith, within, many_corners)))

  each_right : (i : ℕ) (d : List Coordinate) → i < length line.corners → corner_layout.right (get_or line.corners i d) ≡ true
  each_right i d within = ap corner_layout.right (corner_there i d within) ∙ corner_right (corner_at w (place_back count fit.is_line.first i)) (corner_inside i within)

  abbrev HasBytes : List Coordinate → Type 0
  HasBytes corner = 6 ≤ length (corner_layout.bytes_of corner)

  each_bytes : All HasBytes line.corners
  each_bytes = All-from_get_or HasBytes line.corners [] (λ i within.
      let p = corner_at w (place_back count fit.is_line.first i) in
      subst HasBytes (sym (corner_there i [] within)) (corner_bytes (coordinate_at p.x p.w) (coordinate_at p.y p.w) (coordinate_at p.z p.w)))

  corners_bytes : (corners : List (List Coordinate)) → All HasBytes corners → length corners * 6 ≤ length (flat_map corner_layout.bytes_of corners)
  corners_bytes [] each = omega arith
  corners_bytes (corner ∷ corners) each =
      omega (arith, All-head HasBytes corner corners each, corners_bytes corners (All-tail HasBytes corner corners each), length-append (corner_layout.bytes_of corner) (flat_map corner_layout.bytes_of corners))

  -- six bytes for each corner
  line_bytes : length line.corners * 6 ≤ length ((portal_layout leaves).bytes_of line)
  line_bytes =
      let c = flat_map corner_layout.bytes_of line.corners in
      let points = decimal (length line.corners) ++ 32 ∷ [] in
      let first = decimal line.leaf0 ++ 32 ∷ [] in
      let second = decimal line.leaf1 ++ 32 ∷ [] in
      let whole = ap length (portal_bytes leaves line) in
      omega (arith, whole, corners_bytes line.corners each_bytes, length-append points (first ++ (second ++ (c ++ 10 ∷ []))), length-append first (second ++ (c ++ 10 ∷ [])), length-append second (c ++ 10 ∷ []), length-append c (10 ∷ []))

  enough_corners : 3 ≤ length line.corners
  enough_corners = omega (arith, fit.can.in_world.convex.enough, many_corners)

  -- it has a text where its numbers are not too large
  line_right : leaves < 10 ^ 18 → length line.corners < 10 ^ 18 → (portal_layout leaves).right line ≡ true
  unfolding portal_layout points_layout leaf0_layout leaf1_layout numeral literal
  line_right few_leaves few_corners =
      let n = length line.corners in
      let from = fit.is_line.leaf0 in
      let to = fit.is_line.leaf1 in
      let below0 : line.leaf0 < leaves = omega (arith, from, fit.can.from) in
      let below1 : line.leaf1 < leaves = omega (arith, to, fit.can.to) in
      let others : line.leaf1 ≡ line.leaf0 → ⊥ = λ same. fit.can.apart (sym from ∙ sym same ∙ to) in
      let of_points = ((ltb n (10 ^ 18)) && (leb 3 n)) && true in
      let of_leaf0 = ((ltb line.leaf0 (10 ^ 18)) && (ltb line.leaf0 leaves)) && true in
      let of_leaf1 = ((ltb line.leaf1 (10 ^ 18)) && (ltb line.leaf1 leaves && not (eqb line.leaf1 line.leaf0))) && true in
      let of_corners = right_each (λ _. corner_layout) 0 n line.corners && true in
      and_from of_points (of_leaf0 && (of_leaf1 && of_corners))
      (then_true ((ltb n (10 ^ 18)) && (leb 3 n)) (and_from (ltb n (10 ^ 18)) (leb 3 n) (lt-ltb n (10 ^ 18) few_corners) (le-leb 3 n enough_corners)))
      (and_from of_leaf0 (of_leaf1 && of_corners)
      (then_true ((ltb line.leaf0 (10 ^ 18)) && (ltb line.leaf0 leaves)) (and_from (ltb line.leaf0 (10 ^ 18)) (ltb line.leaf0 leaves) (lt-ltb line.leaf0 (10 ^ 18) (omega (arith, below0, few_leaves))) (lt-ltb line.leaf0 leaves below0)))
      (and_from of_leaf1 of_corners
      (then_true ((ltb line.leaf1 (10 ^ 18)) && (ltb line.leaf1 leaves && not (eqb line.leaf1 line.leaf0)))
      (and_from (ltb line.leaf1 (10 ^ 18)) (ltb line.leaf1 leaves && not (eqb line.leaf1 line.leaf0)) (lt-ltb line.leaf1 (10 ^ 18) (omega (arith, below1, few_leaves)))
      (and_from (ltb line.leaf1 leaves) (not (eqb line.leaf1 line.leaf0)) (lt-ltb line.leaf1 leaves below1) (not_same line.leaf1 line.leaf0 others))))
      (then_true (right_each (λ _. corner_layout) 0 n line.corners) (right_each_from (λ _. corner_layout) 0 n line.corners refl each_right))))

-- ---- all lines

module _ (leaves : ℕ) (few_leaves : leaves < 10 ^ 18) where
  abbrev line_layout : ℕ → Layout ListingFaultKind PrtPortal
  line_layout _ = portal_layout leaves

  -- there are eighteen bytes for each
  lines_bytes : (k : ℕ) (lines : List PrtPortal) → All (IsFitLine leaves) lines → length lines * 18 ≤ length (bytes_of_each line_layout k lines)
  lines_bytes k [] fit = omega arith
  lines_bytes k (line ∷ lines) fit =
      let here = All-head (IsFitLine leaves) line lines fit in
      let behind = lines_bytes (k + 1) lines (All-tail (IsFitLine leaves) line lines fit) in
      omega (arith, line_bytes leaves line here, enough_corners leaves line here, behind, length-append ((portal_layout leaves).bytes_of line) (bytes_of_each line_layout (k + 1) lines))

  lines_right : (k : ℕ) (lines : List PrtPortal) → All (IsFitLine leaves) lines → length (bytes_of_each line_layout k lines) < 2 ^ 62 → right_each line_layout k (length lines) lines ≡ true
  lines_right k [] fit small = refl
  lines_right k (line ∷ lines) fit small =
      let here = All-head (IsFitLine leaves) line lines fit in
      let long = length-append ((portal_layout leaves).bytes_of line) (bytes_of_each line_layout (k + 1) lines) in
      let few_corners : length line.corners < 10 ^ 18 = omega (arith, line_bytes leaves line here, long, small) in
      and_from ((portal_layout leaves).right line) (right_each line_layout (k + 1) (length lines) lines)
      (line_right leaves line here few_leaves few_corners)
      (lines_right (k + 1) lines (All-tail (IsFitLine leaves) line lines fit) (omega (arith, long, small)))

-- ---- the listing

-- each line is that of a portal
fit_lines : (world : World) (listing : Listing) → HasOwnPortals world → IsListingOf world listing → All (IsFitLine listing.leaves) listing.portals
fit_lines world listing own is = λ j d within.
    let line = get_or listing.portals j d in
    let found = is.lines.each j line (slice_get-get_or listing.portals j d within) in
    let portal = found.0 in
    let there : get_or world.portals (2 * j) portal ≡ portal = get_or_from_slice_get world.portals (2 * j) portal portal found.1 in
    let can = subst (CanBeListed (length (numbered_leaves world.tree))) there (own_listed world own (2 * j) portal (slice_get_within world.portals (2 * j) portal found.1)) in
    record { portal = portal; can = subst (λ (n : ℕ). CanBeListed n portal) (sym is.leaves) can; is_line = found.2 }

-- the listing of a world has a text, where its leaves are fewer than 10^18, and the bytes fewer than 2^62
pub world_listing_stands : (world : World) (listing : Listing) → HasOwnPortals world → IsListingOf world listing → listing.leaves < 10 ^ 18 → length (listing_text listing) < 2 ^ 62 → IsTrue (can_stand listing)
unfolding can_stand listing_text listing_layout first_line_layout count_line_layout numeral literal
world_listing_stands world listing own is few_leaves small =
    let leaves = listing.leaves in
    let lines = listing.portals in
    let n = length lines in
    let fit = fit_lines world listing own is in
    let bytes = bytes_of_each (line_layout leaves few_leaves) 0 lines in
    let first = codes "PRT1" ++ 10 ∷ [] in
    let of_leaves = decimal leaves ++ 10 ∷ [] in
    let of_lines = decimal n ++ 10 ∷ [] in
    let long = length-append first (of_leaves ++ (of_lines ++ bytes)) in
    let behind_first = length-append of_leaves (of_lines ++ bytes) in
    let behind_leaves = length-append of_lines bytes in
    let few : length bytes < 2 ^ 62 = omega (arith, long, behind_first, behind_leaves, small) in
    let few_lines : n < 10 ^ 18 = omega (arith, lines_bytes leaves few_leaves 0 lines fit, few) in
    let counted = ((ltb leaves (10 ^ 18)) && true) && true in
    let counted_lines = ((ltb n (10 ^ 18)) && true) && true in
    let each = right_each (line_layout leaves few_leaves) 0 n lines in
    and_from counted (counted_lines && each)
    (then_true ((ltb leaves (10 ^ 18)) && true) (then_true (ltb leaves (10 ^ 18)) (lt-ltb leaves (10 ^ 18) few_leaves)))
    (and_from counted_lines each
    (then_true ((ltb n (10 ^ 18)) && true) (then_true (ltb n (10 ^ 18)) (lt-ltb n (10 ^ 18) few_lines)))
    (lines_right leaves few_leaves 0 lines fit few))
