-- The corners of a face by a convex polygon can stand in a section: each names three planes that meet in just one point.
use Rattle.std.proofs.Common.{◌≡◌, ◌<◌, ℕ, ◌^◌, Bool, true, false, not, ℤ, pos, negsuc, neg_ℤ, ◌<ℤ◌, List, [], ◌∷◌, length, get_or, All, Some, sym, ap, subst, ◌∙◌, arith}
use Rattle.std.specs.Prelude.{IsTrue}
use Rattle.std.specs.Int.{w64}
use Rattle.std.proofs.lemmas.Bool.{lt-ltb}
use Rattle.std.proofs.lemmas.Option.{slice_get_within, slice_get-get_or}
use Rattle.std.proofs.lemmas.List.Elements.{All-nil, All-cons}
use Rattle.qm_numbers.proofs.IntegerProducts.{linear}
use Rattle.qm_numbers.proofs.Ring.{negated, solved}
use Rattle.qm_space.specs.Plane.{Plane, flipped}
use Rattle.qm_space.specs.Determinant.{determinant}
use Rattle.qm_space.specs.Meet.{meet}
use Rattle.qm_space.specs.Turned.{turned}
use Rattle.qm_space.proofs.PlaneSymbols.{plane_from, numbers_of_plane, symbol_meet, symbol_flipped}
use Rattle.qm_convex.specs.Winding.{Winding, edge_at, edge_after, corner_at, IsConvex}
use Rattle.qm_convex.proofs.Places.{after_below}
use Rattle.qm_partition.specs.Counting.{leaf_count}
use Rattle.qm_formats.specs.Fields.{fits_signed}
use Rattle.qm_formats.specs.TreeFile.{TreeFile}
use Rattle.qm_listing.proofs.CornersBack.{place_back-within}
use Rattle.qm_face_layout.specs.PlaneNumbers.{walls_at, named_plane}
use Rattle.qm_face_layout.specs.declared.face_record.FaceRecord.{FaceRecord}
use Rattle.qm_face_layout.specs.ValidFace.{IsFaceCorner, IsFaceOfFile}
use Rattle.qm_face_layout.specs.FaceCorners.{place_on, edge_towards, IsNumberedCorner, AreNumberedCorners}

-- ---- the w of a meeting point, where planes are turned or change places

first_flipped : (a b c : Plane) → (meet (flipped a) b c).w ≡ neg_ℤ (meet a b c).w
unfolding meet determinant
first_flipped a b c =
    let p = plane_from 0 in let q = plane_from 4 in let r = plane_from 8 in
    solved (numbers_of_plane a (numbers_of_plane b (numbers_of_plane c []))) (symbol_meet (symbol_flipped p) q r).w (negated (symbol_meet p q r).w) tt

second_flipped : (a b c : Plane) → (meet a (flipped b) c).w ≡ neg_ℤ (meet a b c).w
unfolding meet determinant
second_flipped a b c =
    let p = plane_from 0 in let q = plane_from 4 in let r = plane_from 8 in
    solved (numbers_of_plane a (numbers_of_plane b (numbers_of_plane c []))) (symbol_meet p (symbol_flipped q) r).w (negated (symbol_meet p q r).w) tt

third_flipped : (a b c : Plane) → (meet a b (flipped c)).w ≡ neg_ℤ (meet a b c).w
unfolding meet determinant
third_flipped a b c =
    let p = plane_from 0 in let q = plane_from 4 in let r = plane_from 8 in
    solved (numbers_of_plane a (numbers_of_plane b (numbers_of_plane c []))) (symbol_meet p q (symbol_flipped r)).w (negated (symbol_meet p q r).w) tt

last_exchanged : (a b c : Plane) → (meet a c b).w ≡ neg_ℤ (meet a b c).w
unfolding meet determinant
last_exchanged a b c =
    let p = plane_from 0 in let q = plane_from 4 in let r = plane_from 8 in
    solved (numbers_of_plane a (numbers_of_plane b (numbers_of_plane c []))) (symbol_meet p r q).w (negated (symbol_meet p q r).w) tt

still_none : (z negative : ℤ) → negative ≡ neg_ℤ z → z ≡ pos 0 → negative ≡ pos 0
still_none z negative is none = is ∙ ap neg_ℤ none

first_turned : (side : Bool) (a b c : Plane) → (meet a b c).w ≡ pos 0 → (meet (turned side a) b c).w ≡ pos 0
first_turned true a b c none = none
first_turned false a b c none = still_none (meet a b c).w (meet (flipped a) b c).w (first_flipped a b c) none

second_turned : (side : Bool) (a b c : Plane) → (meet a b c).w ≡ pos 0 → (meet a (turned side b) c).w ≡ pos 0
second_turned true a b c none = none
second_turned false a b c none = still_none (meet a b c).w (meet a (flipped b) c).w (second_flipped a b c) none

third_turned : (side : Bool) (a b c : Plane) → (meet a b c).w ≡ pos 0 → (meet a b (turned side c)).w ≡ pos 0
third_turned true a b c none = none
third_turned false a b c none = still_none (meet a b c).w (meet a b (flipped c)).w (third_flipped a b c) none

all_turned : (first second third : Bool) (a b c : Plane) → (meet a b c).w ≡ pos 0 → (meet (turned first a) (turned second b) (turned third c)).w ≡ pos 0
all_turned first second third a b c none =
    third_turned third (turned first a) (turned second b) c (second_turned second (turned first a) b c (first_turned first a b c none))

-- ---- a corner

-- the corner's own plane and its edges, in the order in which corners go, meet where the corner is
at_corner : (w : Winding) (backward : Bool) (k : ℕ) → (meet w.plane (edge_towards backward w k) (edge_towards (not backward) w k)).w ≡ pos 0 → (corner_at w k).w ≡ pos 0
unfolding corner_at
at_corner w false k none = none
at_corner w true k none = still_none (meet w.plane (edge_after w k) (edge_at w k)).w (meet w.plane (edge_at w k) (edge_after w k)).w (last_exchanged w.plane (edge_after w k) (edge_at w k)) none

module _ (planes : List Plane) (bound : ℕ) (few : length planes < 2 ^ 32) where
  number_fits : (number : ℤ) (named : Plane) → named_plane planes bound number ≡ Some named → fits_signed w64 number ≡ true
  number_fits (pos n) named is = lt-ltb n (2 ^ 63) (omega (arith, slice_get_within planes n named is, few))
  number_fits (negsuc k) named is = lt-ltb k (2 ^ 63) (let e = slice_get_within (walls_at bound) k named is in omega (arith, e))

  pub numbered_is_corner : (w : Winding) (backward : Bool) (k : ℕ) (corner : List ℤ) → pos 0 <ℤ (corner_at w k).w → IsNumberedCorner planes bound w backward k corner → IsFaceCorner planes bound corner
  numbered_is_corner w backward k corner weight is =
      let own = is.own_is.names in
      let before = is.before_is.names in
      let next = is.next_is.names in
      let Fits : ℤ → Type 0 = λ number. IsTrue (fits_signed w64 number) in
      record {
        own = is.own;
        before = is.before;
        next = is.next;
        corner_is = is.corner_is;
        fits = subst (All Fits) (sym is.corner_is)
            (All-cons Fits is.own (is.before ∷ is.next ∷ []) (number_fits is.own own.named own.named_is)
            (All-cons Fits is.before (is.next ∷ []) (number_fits is.before before.named before.named_is)
            (All-cons Fits is.next [] (number_fits is.next next.named next.named_is) (All-nil Fits))));
        own_plane = own.named;
        own_is = own.named_is;
        before_plane = before.named;
        before_is = before.named_is;
        next_plane = next.named;
        next_is = next.named_is;
        meet = λ none.
            let met = all_turned own.side before.side next.side own.named before.named next.named none in
            let same : (meet w.plane (edge_towards backward w k) (edge_towards (not backward) w k)).w ≡ pos 0 =
            ap (λ (h : Plane). (meet h (edge_towards backward w k) (edge_towards (not backward) w k)).w) own.turned_is
            ∙ ap (λ (h : Plane). (meet (turned own.side own.named) h (edge_towards (not backward) w k)).w) before.turned_is
            ∙ ap (λ (h : Plane). (meet (turned own.side own.named) (turned before.side before.named) h).w) next.turned_is
            ∙ met in
            let no_weight = at_corner w backward k same in
            omega (arith, linear, weight, no_weight);
      }

  place_on-below : (backward : Bool) (n first i : ℕ) → first < n → i < n → place_on backward n first i < n
  place_on-below true n first i within there = place_back-within n first i within there
  place_on-below false n first i within there = after_below n first i (omega (arith, within)) there

  pub numbered_are_corners : (w : Winding) (into : Plane) (corners : List (List ℤ)) → IsConvex w → AreNumberedCorners planes bound w into corners → All (IsFaceCorner planes bound) corners
  numbered_are_corners w into corners convex are = λ i d within.
      let k = place_on are.in_front (length w.edges) are.first i in
      let there = place_on-below are.in_front (length w.edges) are.first i are.first_is.within (omega (arith, within, are.count)) in
      numbered_is_corner w are.in_front k (get_or corners i d) (convex.weight k there) (are.each i (get_or corners i d) (slice_get-get_or corners i d within))

-- the numbers of a face are written in as many bits as there are
pub record HasFaceSizes (file : TreeFile) (face : FaceRecord) : Type 0 where
  pub few_planes : length file.tree.planes < 2 ^ 32
  pub leaf_there : face.leaf < leaf_count file.tree.shape
  pub leaf_fits : face.leaf < 2 ^ 64
  pub brush_fits : face.brush < 2 ^ 64
  pub face_fits : face.face < 2 ^ 32
  pub few : length face.corners < 2 ^ 32

-- a face whose corners are those of a convex polygon can stand in a section of the file
pub numbered_face : (file : TreeFile) (face : FaceRecord) (w : Winding) (into : Plane) → HasFaceSizes file face → IsConvex w → AreNumberedCorners file.tree.planes file.bound w into face.corners → IsFaceOfFile file face
numbered_face file face w into sizes convex are = record {
  leaf_there = sizes.leaf_there;
  leaf_fits = sizes.leaf_fits;
  brush_fits = sizes.brush_fits;
  face_fits = sizes.face_fits;
  enough = omega (arith, convex.enough, are.count);
  few = sizes.few;
  corners = numbered_are_corners file.tree.planes file.bound sizes.few_planes w into face.corners convex are;
}
