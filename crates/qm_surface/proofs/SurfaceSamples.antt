-- Worked rows: two brushes that are the same cube of stone, a boundary point on their face x = 64, its owner, and the piece there.
use Rattle.std.proofs.Common.{◌≡◌, ℕ, zero, suc, ℤ, pos, neg_ℤ, ◌+ℤ◌, ◌*ℤ◌, Bool, true, false, List, [], ◌∷◌, get_or, Some, None, refl, arith}
use Rattle.std.proofs.lemmas.Int.{ints}
use Rattle.std.proofs.lemmas.List.Elements.{All-from_recursion}
use Rattle.qm_contents.specs.declared.contents.Contents.TheVariants.{Solid}
use Rattle.qm_numbers.proofs.IntegerProducts.{linear, zero_*ℤ}
use Rattle.qm_numbers.proofs.Ring.{number, variable, negated, ◌⊕◌, ◌⊗◌, solved}
use Rattle.qm_numbers.proofs.Signs.{product_positive}
use Rattle.qm_space.specs.Point.{Point}
use Rattle.qm_space.specs.Plane.{Plane, plane_of, value, IsInFront, flipped}
use Rattle.qm_space.specs.Meet.{meet}
use Rattle.qm_space.specs.Determinant.{determinant}
use Rattle.qm_space.proofs.PlaneSymbols.{point_from, numbers_of_point, symbol_value}
use Rattle.qm_space.proofs.Planes.{value_flipped}
use Rattle.qm_convex.specs.Winding.{Winding, IsConvex}
use Rattle.qm_convex.specs.Sides.{HasNoneInFront, IsWhollyInFront}
use Rattle.qm_convex.specs.inner.Parallelogram.{parallelogram}
use Rattle.qm_convex.proofs.Parallelograms.{parallelogram_convex}
use Rattle.qm_convex.proofs.Cutting.{whole_is_part}
use Rattle.qm_partition.specs.Ways.{cell_of_way}
use Rattle.qm_partition.proofs.Samples.{cube_tree}
use Rattle.qm_contacts.specs.Meeting.{Meeting, meeting_at, meetings}
use Rattle.qm_solids.specs.declared.face.FaceRef.{FaceRef}
use Rattle.qm_solids.specs.InBook.{BookSolid, solid_in}
use Rattle.qm_solids.proofs.Samples.{at, cube, cube_holds_face}
use Rattle.qm_surface.specs.Boundary.{rock_side, IsOnNoOther, IsBoundaryPoint}
use Rattle.qm_surface.specs.Owner.{owning_face, FaceOwner, owners_from, IsOwnerAt}
use Rattle.qm_surface.specs.Cutting.{cutters, IsCarved, behind_all, goes_on, none, more}
use Rattle.qm_surface.specs.Surface.{piece_of, AreOwnedPieces, all_cut, cut_by}

-- the stone is leaf 3: beyond x = 64 lies leaf 0 in front of it, and below x = 0 leaf 6 behind it; leaves 0 and 1 are both empty
sides_row : (rock_side cube_tree 0 3 ≡ Some false) × (rock_side cube_tree 3 6 ≡ Some true) × (rock_side cube_tree 0 1 ≡ None)
sides_row = (refl, refl, refl)

abbrev face : ℕ → Bool → FaceRef
face n out = record { plane = n; out_is_front = out }

-- the cube as a brush
abbrev brush : BookSolid
brush = record { contents = Solid; full = true; faces = face 1 true ∷ face 3 true ∷ face 5 true ∷ face 0 false ∷ face 2 false ∷ face 4 false ∷ [] }

brush_row : solid_in cube_tree.planes brush ≡ cube
brush_row = refl

abbrev both : List BookSolid
both = brush ∷ brush ∷ []

-- where the rock is behind x = 64, both may own points by their first face; in front of it none
owning_row : (owning_face 1 false brush ≡ Some 0) × (owning_face 1 true brush ≡ None)
owning_row = (refl, refl)

abbrev owner : ℕ → FaceOwner
owner k = record { brush = k; face = 0 }

owners_row : owners_from 1 false both 0 ≡ owner 0 ∷ owner 1 ∷ []
owners_row = refl

-- ---- a boundary point

abbrev some_meeting : Meeting
some_meeting = meeting_at 0 0 [] (record { leaf = 0; way = [] }) (record { leaf = 0; way = [] })

-- that of the stone with the leaf beyond x = 64
abbrev east_meeting : Meeting
east_meeting = get_or (meetings cube_tree) 8 some_meeting

abbrev east : Point
east = at (pos 64) (pos 32) (pos 32)

only_here : IsOnNoOther cube_tree.planes 1 east
unfolding value
only_here zero within on = absurd (omega (arith, ints, on))
only_here (suc zero) within on = refl
only_here (suc (suc zero)) within on = absurd (omega (arith, ints, on))
only_here (suc (suc (suc zero))) within on = absurd (omega (arith, ints, on))
only_here (suc (suc (suc (suc zero)))) within on = absurd (omega (arith, ints, on))
only_here (suc (suc (suc (suc (suc zero))))) within on = absurd (omega (arith, ints, on))
only_here (suc (suc (suc (suc (suc (suc m)))))) within on = absurd (omega (arith, within))

point_row : IsBoundaryPoint cube_tree east_meeting false east
unfolding value
point_row = record {
  listed = (8, omega arith, refl);
  sides = refl;
  contact = record {
    in_cube = record {
      weight = omega (arith, ints);
      x = record { above = omega (arith, ints); below = omega (arith, ints) };
      y = record { above = omega (arith, ints); below = omega (arith, ints) };
      z = record { above = omega (arith, ints); below = omega (arith, ints) };
    };
    on = refl;
    above = All-from_recursion (λ h. IsInFront h east) (cell_of_way cube_tree.planes east_meeting.above) (grind (arith, ints));
    in_front = All-from_recursion (λ h. IsInFront h east) (cell_of_way cube_tree.planes east_meeting.front.way) tt;
    behind = All-from_recursion (λ h. IsInFront h east) (cell_of_way cube_tree.planes east_meeting.back.way) (grind (arith, ints));
  };
  only = only_here;
}

-- the first brush owns it
owner_row : IsOwnerAt cube_tree.planes both 1 false east (owner 0)
owner_row = record {
  may = record { solid = brush; listed = refl; counts = refl; holds = cube_holds_face };
  least = λ other may. omega arith;
}

-- ---- the piece there

-- the contact: the square of the plane x = 64 with y and z between 0 and 64
abbrev low_y : Plane
low_y = plane_of (pos 0) (pos 1) (pos 0) (pos 0)

abbrev low_z : Plane
low_z = plane_of (pos 0) (pos 0) (pos 1) (pos 0)

abbrev high_y : Plane
high_y = plane_of (pos 0) (neg_ℤ (pos 1)) (pos 0) (neg_ℤ (pos 64))

abbrev high_z : Plane
high_z = plane_of (pos 0) (pos 0) (neg_ℤ (pos 1)) (neg_ℤ (pos 64))

abbrev square : Winding
square = parallelogram (plane_of (pos 1) (pos 0) (pos 0) (pos 64)) low_y low_z high_y high_z

square_convex : IsConvex square
unfolding meet determinant
square_convex = parallelogram_convex (plane_of (pos 1) (pos 0) (pos 0) (pos 64)) low_y low_z high_y high_z refl refl (omega (arith, ints)) (omega (arith, ints)) (omega (arith, ints))

-- a plane that has all of it behind cuts nothing off
nothing_cut : (g : Plane) (planes : List Plane) → IsWhollyInFront square (flipped g) → IsCarved planes square [] (Some square) → IsCarved (g ∷ planes) square [] (Some square)
nothing_cut g planes ahead rest =
    let none_ahead : HasNoneInFront square g = λ p r. let e = value_flipped g p in let f = ahead p r in omega (arith, linear) in
    goes_on None none_ahead (whole_is_part square (flipped g) square_convex ahead) rest

value_across_x : (d : ℤ) (p : Point) → value (plane_of (pos 1) (pos 0) (pos 0) d) p ≡ p.x +ℤ neg_ℤ (d *ℤ p.w)
unfolding value
value_across_x d p =
    solved (numbers_of_point p (d ∷ [])) (symbol_value (record { nx = number (pos 1); ny = number (pos 0); nz = number (pos 0); d = variable 4 }) (point_from 0))
    (variable 0 ⊕ negated (variable 4 ⊗ variable 3)) tt

ahead_x : IsWhollyInFront square (plane_of (pos 1) (pos 0) (pos 0) (pos 0))
ahead_x p r =
    let here = value_across_x (pos 64) p in
    let low = value_across_x (pos 0) p in
    let none = zero_*ℤ p.w in
    let some = product_positive (pos 64) p.w (omega (arith, ints)) r.weight in
    let on = r.on in
    omega (arith, linear)

-- so the other faces of the cube leave it whole
carved_row : IsCarved (cutters cube_tree.planes 1 brush.faces) square [] (Some square)
carved_row =
    nothing_cut _ _ (λ p r. r.inside 2 low_y (omega arith))
    (nothing_cut _ _ (λ p r. r.inside 3 low_y (omega arith))
    (nothing_cut _ _ ahead_x
    (nothing_cut _ _ (λ p r. r.inside 0 low_y (omega arith))
    (nothing_cut _ _ (λ p r. r.inside 1 low_y (omega arith)) behind_all))))

-- the first brush has all of it, and leaves nothing to the second
piece_row : AreOwnedPieces cube_tree.planes both 1 false 0 (owner 0 ∷ owner 1 ∷ []) (square ∷ []) (piece_of 0 false (owner 0) square ∷ [])
piece_row = cut_by (more carved_row none) (cut_by none all_cut)
