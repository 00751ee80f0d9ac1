-- The corners of a winding, gone through backward.
use Rattle.std.proofs.Common.{◌≡◌, ◌<◌, ◌≤◌, ℕ, zero, suc, ◌+◌, false, List, [], ◌∷◌, ◌++◌, Some, length, get_or, map, refl, sym, ap, subst, ◌∙◌, arith}
use Rattle.std.specs.Prelude.{slice_get}
use Rattle.std.specs.List.{range_with_len}
use Rattle.std.proofs.lemmas.List.FromFn.{get_or-map-range_with_len, length-map-range_with_len, map-range_with_len_more}
use Rattle.qm_space.specs.Point.{Point}
use Rattle.qm_convex.specs.Winding.{Winding, corner_at}
use Rattle.qm_listing.specs.declared.listing.Coordinate.{Coordinate}
use Rattle.qm_contacts.specs.Portals.{Portal}
use Rattle.qm_listing.specs.WorldListing.{coordinates_at, come_before, place_back, corners_back, IsFirstCorner, IsLineOf}
use Rattle.qm_listing.specs.inner.GoneRound.{first_corners, corners_forward, steps_back}

pub place_back-within : (n k i : ℕ) → k < n → i < n → place_back n k i < n
unfolding place_back
place_back-within n k i within there = grind (arith, within, there)

pub corner_forward : (w : Winding) (i : ℕ) → i < length w.edges → get_or (corners_forward w) i [] ≡ coordinates_at (corner_at w i)
corner_forward w i there = get_or-map-range_with_len (λ k. coordinates_at (corner_at w k)) 0 (length w.edges) i i [] there (omega arith)

map_same : {X : Type 0} (f g : ℕ → X) (a n : ℕ) → ((i : ℕ) → i < n → f (a + i) ≡ g (a + i)) → map f (range_with_len a n) ≡ map g (range_with_len a n)
map_same f g a zero same = refl
map_same f g a (suc n) same =
    let here : a + 0 ≡ a = omega arith in
    let first : f a ≡ g a = ap f (sym here) ∙ same 0 (omega arith) ∙ ap g here in
    let rest = map_same f g (a + 1) n (λ i less. let place : (a + 1) + i ≡ a + suc i = omega arith in ap f place ∙ same (suc i) (omega (arith, less)) ∙ sym (ap g place)) in
    λ i. first i ∷ rest i

pub steps_back-corners : (w : Winding) (k : ℕ) → k < length w.edges → steps_back (corners_forward w) k (length (corners_forward w)) ≡ corners_back w k
unfolding corners_back
steps_back-corners w k within =
    let n = length w.edges in
    let long : length (corners_forward w) ≡ n = length-map-range_with_len (λ i. coordinates_at (corner_at w i)) 0 n in
    ap (λ (m : ℕ). map (λ i. get_or (corners_forward w) (place_back m k i) []) (range_with_len 0 m)) long
    ∙ map_same (λ i. get_or (corners_forward w) (place_back n k i) []) (λ i. coordinates_at (corner_at w (place_back n k i))) 0 n (λ i less.
    let same : 0 + i ≡ i = omega arith in
    corner_forward w (place_back n k (0 + i)) (place_back-within n k (0 + i) within (omega (arith, less, same))))

-- ---- one more

pub one_step_back : (corners items more : List (List Coordinate)) (k i place : ℕ) → items ≡ steps_back corners k i → place ≡ place_back (length corners) k i → more ≡ items ++ get_or corners place [] ∷ [] → more ≡ steps_back corners k (i + 1)
one_step_back corners items more k i place so_far here pushed =
    pushed
    ∙ (λ j. so_far j ++ get_or corners (here j) [] ∷ [])
    ∙ sym (map-range_with_len_more (λ n. get_or corners (place_back (length corners) k n) []) 0 i i (omega arith))

pub one_corner_more : (w : Winding) (items more : List (List Coordinate)) (i : ℕ) (corner : Point) (next : List Coordinate) → items ≡ first_corners w i → corner ≡ corner_at w i → next ≡ coordinates_at corner → more ≡ items ++ next ∷ [] → more ≡ first_corners w (i + 1)
one_corner_more w items more i corner next so_far here is pushed =
    let found : next ≡ coordinates_at (corner_at w i) = is ∙ ap (λ (p : Point). coordinates_at p) here in
    pushed
    ∙ (λ j. so_far j ++ found j ∷ [])
    ∙ sym (map-range_with_len_more (λ n. coordinates_at (corner_at w n)) 0 i i (omega arith))

-- ---- the line of a portal

pub some_corners : (w : Winding) (items : List (List Coordinate)) (count i : ℕ) → items ≡ first_corners w i → 3 ≤ count → count ≤ i → 0 < length items
some_corners w items count i is enough all = omega (arith, enough, all, ap length is, length-map-range_with_len (λ n. coordinates_at (corner_at w n)) 0 i)

pub first_of_winding : (w : Winding) (corners : List (List Coordinate)) (first : ℕ) → corners ≡ corners_forward w → first < length corners → ((k : ℕ) → k < length corners → come_before (get_or corners k []) (get_or corners first []) ≡ false) → IsFirstCorner w first
first_of_winding w corners first is within none =
    let long : length corners ≡ length w.edges = ap length is ∙ length-map-range_with_len (λ i. coordinates_at (corner_at w i)) 0 (length w.edges) in
    let at : (k : ℕ) → k < length w.edges → get_or corners k [] ≡ coordinates_at (corner_at w k) = λ k there. ap (λ (xs : List (List Coordinate)). get_or xs k []) is ∙ corner_forward w k there in
    let inside : first < length w.edges = omega (arith, within, long) in
    record {
      within = inside;
      first = λ k there. (λ j. come_before (sym (at k there) j) (sym (at first inside) j)) ∙ none k (omega (arith, there, long));
    }

-- what is known of a portal's parts
pub record HasParts (portal : Portal) (w : Winding) (from to : ℕ) : Type 0 where
  pub winding : w ≡ portal.winding
  pub leaf0 : from ≡ portal.from
  pub leaf1 : to ≡ portal.to

same_portal : (portals : List Portal) (p : ℕ) (one other : Portal) → slice_get portals p ≡ Some one → slice_get portals p ≡ Some other → other ≡ one
same_portal portals p one other first second = let e : Some other ≡ Some one = sym second ∙ first in cc

pub has_parts :
    (portals : List Portal) (p : ℕ) (portal : Portal) (w : Winding) (from to : ℕ) → slice_get portals p ≡ Some portal → w ≡ portal.winding →
    (other : Portal) × (slice_get portals p ≡ Some other) × (from ≡ other.from) →
    (other : Portal) × (slice_get portals p ≡ Some other) × (to ≡ other.to) →
    HasParts portal w from to
has_parts portals p portal w from to there winding of_from of_to =
    record {
      winding = winding;
      leaf0 = of_from.2 ∙ ap (λ (one : Portal). one.from) (same_portal portals p portal of_from.0 there of_from.1);
      leaf1 = of_to.2 ∙ ap (λ (one : Portal). one.to) (same_portal portals p portal of_to.0 there of_to.1);
    }

pub listed_line :
    (portal : Portal) (w : Winding) (from to : ℕ) (corners turned : List (List Coordinate)) (first : ℕ) →
    HasParts portal w from to → corners ≡ corners_forward w → first < length corners →
    ((k : ℕ) → k < length corners → come_before (get_or corners k []) (get_or corners first []) ≡ false) →
    turned ≡ steps_back corners first (length corners) →
    IsLineOf portal (record { leaf0 = from; leaf1 = to; corners = turned })
listed_line portal w from to corners turned first parts is within none back =
    let first_is = first_of_winding w corners first is within none in
    let listed : turned ≡ corners_back w first = back ∙ ap (λ (xs : List (List Coordinate)). steps_back xs first (length xs)) is ∙ steps_back-corners w first first_is.within in
    record {
      first = first;
      first_is = subst (λ (v : Winding). IsFirstCorner v first) parts.winding first_is;
      corners = listed ∙ ap (λ (v : Winding). corners_back v first) parts.winding;
      leaf0 = parts.leaf0;
      leaf1 = parts.leaf1;
    }
