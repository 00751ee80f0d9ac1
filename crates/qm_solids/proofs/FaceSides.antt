-- On which sides of the outward planes of faces a point lies, by the planes of a book.
use Rattle.std.proofs.Common.{◌≡◌, ℕ, ◌<◌, ◌≤◌, ℤ, pos, ◌<ℤ◌, ◌≤ℤ◌, Bool, false, List, length, get_or, take, All, sym, ap, ◌∙◌, subst, arith, int_cmp, Less, Equal, Greater, Ordering}
use Rattle.std.specs.Bool.{MatchBool}
use Rattle.std.specs.Ordering.{is_gt, is_ge, ordering_reverse}
use Rattle.std.proofs.lemmas.Int.{ints}
use Rattle.std.proofs.lemmas.List.{take_all, get_or_default}
use Rattle.std.proofs.lemmas.List.Elements.{All-same, All-map}
use Rattle.qm_numbers.proofs.Signs.{by_sign, compares_less, compares_equal, compares_greater}
use Rattle.qm_lists.proofs.Elements.{All-from_map}
use Rattle.qm_space.specs.Point.{Point}
use Rattle.qm_space.specs.Plane.{Plane, value, flipped, IsBehind, IsNotInFront}
use Rattle.qm_space.specs.Book.{plane_at}
use Rattle.qm_space.specs.Turned.{turned}
use Rattle.qm_space.proofs.Planes.{value_flipped}
use Rattle.qm_solids.specs.declared.face.FaceRef.{FaceRef}
use Rattle.qm_solids.specs.Outward.{outward_of, outward_planes}
use Rattle.qm_solids.specs.Solid.{Solid}
use Rattle.qm_solids.specs.Holding.{IsInside, IsInFrontOfNone}
use Rattle.qm_solids.proofs.Insides.{behind_all, inside_of_behind}

-- ---- comparisons with 0

by_order : (P : Ordering → Type 0) (z : ℤ) (side : Ordering) → side ≡ int_cmp z (pos 0) → (z <ℤ pos 0 → P Less) → (z ≡ pos 0 → P Equal) → (pos 0 <ℤ z → P Greater) → P side
by_order P z side is less equal greater = subst P (sym is) (by_sign z
    (λ below. subst P (sym (compares_less z (pos 0) below)) (less below))
    (λ zero. subst P (sym (compares_equal z (pos 0) zero)) (equal zero))
    (λ above. subst P (sym (compares_greater z (pos 0) above)) (greater above)))

gt_tells : (z : ℤ) (side : Ordering) → side ≡ int_cmp z (pos 0) → MatchBool (is_gt side) (pos 0 <ℤ z) (z ≤ℤ pos 0)
gt_tells z side is =
    by_order (λ o. MatchBool (is_gt o) (pos 0 <ℤ z) (z ≤ℤ pos 0)) z side is (λ below. omega (arith, ints)) (λ zero. omega (arith, ints)) (λ above. above)

ge_tells : (z : ℤ) (side : Ordering) → side ≡ int_cmp z (pos 0) → MatchBool (is_ge side) (pos 0 ≤ℤ z) (z <ℤ pos 0)
ge_tells z side is =
    by_order (λ o. MatchBool (is_ge o) (pos 0 ≤ℤ z) (z <ℤ pos 0)) z side is (λ below. below) (λ zero. omega (arith, ints)) (λ above. omega (arith, ints))

-- the side of a plane that is flipped
pub flipped_side : (h : Plane) (x : Point) (side : Ordering) → side ≡ int_cmp (value h x) (pos 0) → ordering_reverse side ≡ int_cmp (value (flipped h) x) (pos 0)
flipped_side h x side is =
    let e = value_flipped h x in
    by_order (λ o. ordering_reverse o ≡ int_cmp (value (flipped h) x) (pos 0)) (value h x) side is
    (λ below. sym (compares_greater (value (flipped h) x) (pos 0) (omega (arith, ints))))
    (λ zero. sym (compares_equal (value (flipped h) x) (pos 0) (omega (arith, ints))))
    (λ above. sym (compares_less (value (flipped h) x) (pos 0) (omega (arith, ints))))

-- the plane that was read at a place
pub plane_read : (planes : List Plane) (n : ℕ) (h : Plane) → n < length planes → h ≡ get_or planes n h → plane_at planes n ≡ h
plane_read planes n h within is = get_or_default planes n _ h within ∙ sym is

pub outer_at_back : (planes : List Plane) (face : FaceRef) (h : Plane) (x : Point) (side : Ordering) → face.out_is_front ≡ false → face.plane < length planes → h ≡ get_or planes face.plane h → side ≡ int_cmp (value h x) (pos 0) → ordering_reverse side ≡ int_cmp (value (outward_of planes face) x) (pos 0)
outer_at_back planes face h x side out within is compared =
    let its : outward_of planes face ≡ flipped h = ap (λ (b : Bool). turned b (plane_at planes face.plane)) out ∙ ap flipped (plane_read planes face.plane h within is) in
    flipped_side h x side compared ∙ ap (λ (g : Plane). int_cmp (value g x) (pos 0)) (sym its)

-- ---- one face

module _ (planes : List Plane) (face : FaceRef) (x : Point) (side : Ordering) (compared : side ≡ int_cmp (value (outward_of planes face) x) (pos 0)) (test wanted : Bool) (was : test ≡ wanted) where
  pub gt_means : test ≡ is_gt side → MatchBool wanted (pos 0 <ℤ value (outward_of planes face) x) (IsNotInFront (outward_of planes face) x)
  gt_means is = subst (λ (b : Bool). MatchBool b (pos 0 <ℤ value (outward_of planes face) x) (IsNotInFront (outward_of planes face) x)) (sym is ∙ was) (gt_tells (value (outward_of planes face) x) side compared)

  pub ge_means : test ≡ is_ge side → MatchBool wanted (pos 0 ≤ℤ value (outward_of planes face) x) (IsBehind (outward_of planes face) x)
  ge_means is = subst (λ (b : Bool). MatchBool b (pos 0 ≤ℤ value (outward_of planes face) x) (IsBehind (outward_of planes face) x)) (sym is ∙ was) (ge_tells (value (outward_of planes face) x) side compared)

-- ---- all faces

module _ (planes : List Plane) (faces : List FaceRef) (i : ℕ) (x : Point) where
  pub not_in_front_all : length faces ≤ i → All (λ face. IsNotInFront (outward_of planes face) x) (take i faces) → IsInFrontOfNone (outward_planes planes faces) x
  not_in_front_all past all =
      All-map (λ h. IsNotInFront h x) (outward_of planes) faces (All-same (λ face. IsNotInFront (outward_of planes face) x) faces (take i faces) (sym (take_all i faces past)) all)

  pub in_front_one : (d : FaceRef) → i < length faces → pos 0 <ℤ value (outward_of planes (get_or faces i d)) x → IsInFrontOfNone (outward_planes planes faces) x → ⊥
  in_front_one d within in_front all =
      let not = All-from_map (λ h. IsNotInFront h x) (outward_of planes) faces all i d within in
      absurd (omega (arith, ints, in_front, not))

  pub inside_all : (solid : Solid) → solid.outward ≡ outward_planes planes faces → length faces ≤ i → All (λ face. IsBehind (outward_of planes face) x) (take i faces) → IsInside solid x
  inside_all solid its past all =
      inside_of_behind solid.outward x (subst (λ (those : List Plane). All (λ h. IsBehind h x) those) (sym its)
      (All-map (λ h. IsBehind h x) (outward_of planes) faces (All-same (λ face. IsBehind (outward_of planes face) x) faces (take i faces) (sym (take_all i faces past)) all)))

  pub not_behind_one : (solid : Solid) (d : FaceRef) → solid.outward ≡ outward_planes planes faces → i < length faces → pos 0 ≤ℤ value (outward_of planes (get_or faces i d)) x → IsInside solid x → ⊥
  not_behind_one solid d its within not inside =
      let behind = behind_all solid.outward x inside in
      let one = All-from_map (λ h. IsBehind h x) (outward_of planes) faces (subst (λ (those : List Plane). All (λ h. IsBehind h x) those) its behind) i d within in
      absurd (omega (arith, ints, one, not))
