-- The solid of a box of stone: the points that it holds, and that it is full.
use Rattle.std.specs.Prelude.{map as mapped}
use Rattle.std.proofs.Common.{◌≡◌, Bool, true, false, ℤ, pos, neg_ℤ, ◌+ℤ◌, ◌-ℤ◌, ◌*ℤ◌, ◌<ℤ◌, ◌≤ℤ◌, List, [], ◌∷◌, Some, refl, sym, ap, ◌∙◌, subst, arith}
use Rattle.std.specs.List.{All, AllZip, AllByRecursion, filter_map}
use Rattle.std.proofs.lemmas.Int.{ints}
use Rattle.std.proofs.lemmas.List.Elements.{All-nil, All-cons, All-head, All-tail}
use Rattle.qm_contents.specs.declared.contents.Contents.TheVariants as contents
use Rattle.qm_contents.specs.Texture.{contents_of_texture}
use Rattle.qm_mapfile.specs.Face.{face_outward}
use Rattle.qm_numbers.proofs.IntegerProducts.{linear}
use Rattle.qm_numbers.proofs.Signs.{positive_times_negative, product_not_positive, negative_beside, not_positive_beside}
use Rattle.qm_space.specs.Bounds.{extent}
use Rattle.qm_space.specs.Point.{Point, IsWithinExtent}
use Rattle.qm_space.specs.Plane.{Plane, value, IsBehind, IsNotInFront}
use Rattle.qm_space.specs.Turned.{turned}
use Rattle.qm_solids.specs.Solid.{Solid}
use Rattle.qm_solids.specs.Holding.{IsInFrontOfNone, IsFull, Holds}
use Rattle.qm_solids.proofs.Insides.{inside_of_behind}
use Rattle.qm_drawn.specs.Solids.{solid_of_brush}
use Rattle.qm_rooms.specs.Boxes.{StoneBox, points_west, points_east, points_south, points_north, points_bottom, points_top, face_points, stone_face, box_brush}
use Rattle.qm_sealed_rooms.proofs.Borders.{IsBehindEach}
use Rattle.qm_sealed_rooms.proofs.BoxPlanes.{billion, spanned_by, across_x, across_y, across_z, IsSide, side_value, west_side, east_side, south_side, north_side, bottom_side, top_side, beyond_west, beyond_east, beyond_south, beyond_north, beyond_bottom, beyond_top}

-- the side of a point, where its value is a multiple of a number
module _ (h : Plane) (p : Point) (n : ℤ) (is : value h p ≡ billion *ℤ n) where
  not_in_front : n ≤ℤ pos 0 → IsNotInFront h p
  not_in_front low = subst (λ (v : ℤ). v ≤ℤ pos 0) (sym is) (product_not_positive billion n (omega (arith, ints)) low)

  at_most : IsNotInFront h p → n ≤ℤ pos 0
  at_most low = not_positive_beside billion n (omega (arith, ints)) (subst (λ (v : ℤ). v ≤ℤ pos 0) is low)

  is_behind : n <ℤ pos 0 → IsBehind h p
  is_behind low = subst (λ (v : ℤ). v <ℤ pos 0) (sym is) (positive_times_negative billion n (omega (arith, ints)) low)

  less : IsBehind h p → n <ℤ pos 0
  less low = negative_beside billion n (omega (arith, ints)) (subst (λ (v : ℤ). v <ℤ pos 0) is low)

-- ---- the points of a box

-- the planes of its faces, turned outward
unfoldable pub box_outward : StoneBox → List Plane
box_outward box = mapped face_outward (mapped stone_face (face_points box))

-- inside a box or on its faces
pub record IsWithin (box : StoneBox) (p : Point) : Type 0 where
  pub west : (box.west *ℤ p.w) ≤ℤ p.x
  pub east : p.x ≤ℤ (box.east *ℤ p.w)
  pub south : (box.south *ℤ p.w) ≤ℤ p.y
  pub north : p.y ≤ℤ (box.north *ℤ p.w)
  pub bottom : (box.bottom *ℤ p.w) ≤ℤ p.z
  pub top : p.z ≤ℤ (box.top *ℤ p.w)

-- inside a box and not on its faces
pub record IsStrictlyWithin (box : StoneBox) (p : Point) : Type 0 where
  pub west : (box.west *ℤ p.w) <ℤ p.x
  pub east : p.x <ℤ (box.east *ℤ p.w)
  pub south : (box.south *ℤ p.w) <ℤ p.y
  pub north : p.y <ℤ (box.north *ℤ p.w)
  pub bottom : (box.bottom *ℤ p.w) <ℤ p.z
  pub top : p.z <ℤ (box.top *ℤ p.w)

-- how far a point lies beyond each side of a box, times its w
abbrev beyond : StoneBox → Point → List ℤ
beyond box p =
    ((box.west *ℤ p.w) -ℤ p.x) ∷ (p.x -ℤ (box.east *ℤ p.w)) ∷ ((box.south *ℤ p.w) -ℤ p.y) ∷ (p.y -ℤ (box.north *ℤ p.w))
    ∷ ((box.bottom *ℤ p.w) -ℤ p.z) ∷ (p.z -ℤ (box.top *ℤ p.w)) ∷ []

-- what holds of planes, by what holds of numbers of which their values are multiples, and the other way
module _ (p : Point) (P : Plane → Type 0) (Q : ℤ → Type 0) where
  abbrev AreMultiples : List Plane → List ℤ → Type 0
  AreMultiples planes numbers = AllZip (λ h n. value h p ≡ billion *ℤ n) planes numbers

  of_planes : ((h : Plane) (n : ℤ) → value h p ≡ billion *ℤ n → Q n → P h) → (planes : List Plane) (numbers : List ℤ) → AreMultiples planes numbers → AllByRecursion Q numbers → All P planes
  of_planes each [] [] are all = All-nil P
  of_planes each (h ∷ planes) (n ∷ numbers) are all = All-cons P h planes (each h n are.0 all.0) (of_planes each planes numbers are.1 all.1)
  of_planes each [] (n ∷ numbers) are all = absurd are
  of_planes each (h ∷ planes) [] are all = absurd are

  of_numbers : ((h : Plane) (n : ℤ) → value h p ≡ billion *ℤ n → P h → Q n) → (planes : List Plane) (numbers : List ℤ) → AreMultiples planes numbers → All P planes → AllByRecursion Q numbers
  of_numbers each [] [] are all = tt
  of_numbers each (h ∷ planes) (n ∷ numbers) are all = (each h n are.0 (All-head P h planes all), of_numbers each planes numbers are.1 (All-tail P h planes all))
  of_numbers each [] (n ∷ numbers) are all = absurd are
  of_numbers each (h ∷ planes) [] are all = absurd are

module _ (box : StoneBox) (p : Point) where
  its_value : (points : List (List ℤ)) (h : Plane) (front : Bool) (n : ℤ) → IsSide points h front → value (turned front h) p ≡ n → value (spanned_by points) p ≡ billion *ℤ n
  its_value points h front n side is = side_value points h front side p ∙ ap (λ (m : ℤ). billion *ℤ m) is

  are_multiples : AllZip (λ h n. value h p ≡ billion *ℤ n) (box_outward box) (beyond box p)
  unfolding box_outward face_points stone_face
  are_multiples = (
    its_value (points_west box.west) (across_x box.west) false _ (west_side box.west) (beyond_west box.west p),
    (
      its_value (points_east box.east) (across_x box.east) true _ (east_side box.east) (beyond_east box.east p),
      (
        its_value (points_south box.south) (across_y box.south) false _ (south_side box.south) (beyond_south box.south p),
        (
          its_value (points_north box.north) (across_y box.north) true _ (north_side box.north) (beyond_north box.north p),
          (
            its_value (points_bottom box.bottom) (across_z box.bottom) false _ (bottom_side box.bottom) (beyond_bottom box.bottom p),
            (its_value (points_top box.top) (across_z box.top) true _ (top_side box.top) (beyond_top box.top p), tt),
          ),
        ),
      ),
    ),
  )

  pub none_from_within : IsWithin box p → IsInFrontOfNone (box_outward box) p
  none_from_within i =
      let a = i.west in let b = i.east in let c = i.south in let d = i.north in let e = i.bottom in let f = i.top in
      of_planes p (λ h. IsNotInFront h p) (λ n. n ≤ℤ pos 0) (λ h n is low. not_in_front h p n is low) (box_outward box) (beyond box p) are_multiples
      (omega (arith, linear), (omega (arith, linear), (omega (arith, linear), (omega (arith, linear), (omega (arith, linear), (omega (arith, linear), tt))))))

  pub within_from_none : IsInFrontOfNone (box_outward box) p → IsWithin box p
  within_from_none none =
      let n = of_numbers p (λ h. IsNotInFront h p) (λ n. n ≤ℤ pos 0) (λ h n is low. at_most h p n is low) (box_outward box) (beyond box p) are_multiples none in
      let a = n.0 in let b = n.1.0 in let c = n.1.1.0 in let d = n.1.1.1.0 in let e = n.1.1.1.1.0 in let f = n.1.1.1.1.1.0 in
      record {
        west = omega (arith, linear);
        east = omega (arith, linear);
        south = omega (arith, linear);
        north = omega (arith, linear);
        bottom = omega (arith, linear);
        top = omega (arith, linear);
      }

  pub behind_from_strict : IsStrictlyWithin box p → IsBehindEach (box_outward box) p
  behind_from_strict i =
      let a = i.west in let b = i.east in let c = i.south in let d = i.north in let e = i.bottom in let f = i.top in
      of_planes p (λ h. IsBehind h p) (λ n. n <ℤ pos 0) (λ h n is low. is_behind h p n is low) (box_outward box) (beyond box p) are_multiples
      (omega (arith, linear), (omega (arith, linear), (omega (arith, linear), (omega (arith, linear), (omega (arith, linear), (omega (arith, linear), tt))))))

  pub strict_from_behind : IsBehindEach (box_outward box) p → IsStrictlyWithin box p
  strict_from_behind behind =
      let n = of_numbers p (λ h. IsBehind h p) (λ n. n <ℤ pos 0) (λ h n is low. less h p n is low) (box_outward box) (beyond box p) are_multiples behind in
      let a = n.0 in let b = n.1.0 in let c = n.1.1.0 in let d = n.1.1.1.0 in let e = n.1.1.1.1.0 in let f = n.1.1.1.1.1.0 in
      record {
        west = omega (arith, linear);
        east = omega (arith, linear);
        south = omega (arith, linear);
        north = omega (arith, linear);
        bottom = omega (arith, linear);
        top = omega (arith, linear);
      }

-- ---- the solid

abbrev pub box_solid : StoneBox → Solid
box_solid box = record { contents = contents.Solid; outward = box_outward box }

solid_of_box : (box : StoneBox) → solid_of_brush (box_brush box) ≡ Some (box_solid box)
unfolding box_brush box_outward face_points stone_face contents_of_texture
solid_of_box box = refl

pub solids_of_boxes : (boxes : List StoneBox) → filter_map solid_of_brush (mapped box_brush boxes) ≡ mapped box_solid boxes
solids_of_boxes [] = refl
solids_of_boxes (box ∷ boxes) = rw (solid_of_box box, solids_of_boxes boxes) refl

-- ---- a box that has an inside, and lies in the closed cube

pub record IsProperSpan (low high : ℤ) : Type 0 where
  pub low_in : neg_ℤ extent ≤ℤ low
  pub order : low <ℤ high
  pub high_in : high ≤ℤ extent

pub record IsProperBox (box : StoneBox) : Type 0 where
  pub x : IsProperSpan box.west box.east
  pub y : IsProperSpan box.south box.north
  pub z : IsProperSpan box.bottom box.top

middle_in : (low high : ℤ) → IsProperSpan low high → IsWithinExtent (low +ℤ high) (pos 2)
middle_in low high s = let a = s.low_in in let b = s.order in let c = s.high_in in record { above = omega (arith, ints); below = omega (arith, ints) }

middle_above : (low high : ℤ) → IsProperSpan low high → (low *ℤ pos 2) <ℤ (low +ℤ high)
middle_above low high s = let b = s.order in omega (arith, ints)

middle_below : (low high : ℤ) → IsProperSpan low high → (low +ℤ high) <ℤ (high *ℤ pos 2)
middle_below low high s = let b = s.order in omega (arith, ints)

-- it is full: its middle is strictly inside
pub box_full : (box : StoneBox) → IsProperBox box → IsFull (box_solid box)
box_full box proper =
    let middle : Point = record { x = box.west +ℤ box.east; y = box.south +ℤ box.north; z = box.bottom +ℤ box.top; w = pos 2 } in
    record {
      within = middle;
      in_cube = record {
        weight = omega (arith, ints);
        x = middle_in box.west box.east proper.x;
        y = middle_in box.south box.north proper.y;
        z = middle_in box.bottom box.top proper.z;
      };
      inside = inside_of_behind (box_outward box) middle (behind_from_strict box middle (record {
        west = middle_above box.west box.east proper.x;
        east = middle_below box.west box.east proper.x;
        south = middle_above box.south box.north proper.y;
        north = middle_below box.south box.north proper.y;
        bottom = middle_above box.bottom box.top proper.z;
        top = middle_below box.bottom box.top proper.z;
      }));
    }

pub box_holds : (box : StoneBox) (p : Point) → IsProperBox box → IsWithin box p → Holds (box_solid box) p
box_holds box p proper within = record { full = box_full box proper; not_in_front = none_from_within box p within }
