-- The planes of the faces of boxes, before they are brought to lowest terms and in them.
use Rattle.std.proofs.Common.{◌≡◌, ◌∙◌, Bool, true, false, ℤ, pos, neg_ℤ, ◌*ℤ◌, ◌-ℤ◌, List, [], ◌∷◌, IsTrue, slice_index_or, refl, sym, ap, subst, lit≤, arith}
use Rattle.std.proofs.Math.Nat.{eq-one_of_dvd-one}
use Rattle.std.proofs.lemmas.Int.{ints}
use Rattle.qm_numbers.proofs.IntegerProducts.{*ℤ_zero}
use Rattle.qm_numbers.proofs.Ring.{Expression, value_of, AreIdentical, variable, number, negated, ◌⊕◌, ◌⊖◌, ◌⊗◌, solved}
use Rattle.qm_space.specs.Point.{Point}
use Rattle.qm_space.specs.Plane.{Plane, value, flipped, scaled}
use Rattle.qm_space.specs.Reduced.{HasNormal, HasNoNormal, HasSmallNormal, leads_positive}
use Rattle.qm_space.specs.Turned.{turned}
use Rattle.qm_space.specs.ThreePoints.{outward_plane, in_space, spanned_plane, common_factor, reduced, plane_through}
use Rattle.qm_space.proofs.Lines.{thousandths_weights}
use Rattle.qm_space.proofs.Planes.{value_scaled}
use Rattle.qm_space.proofs.PlaneSymbols.{PlaneSymbols, PointSymbols, point_from, numbers_of_point, symbol_value, symbol_scaled, symbol_flipped}
use Rattle.qm_space.proofs.ReducedPlanes.{IsLowest, same_plane, common_factor_positive, reduced_back, reduced_leads, reduced_lowest, multiples_equal}
use Rattle.qm_space.proofs.PlanesThroughPoints.{one_line_no_normal, through_is_fine}
use Rattle.qm_mapfile.specs.Face.{point_at, SpanPlane, GivePlane}
use Rattle.qm_rooms.specs.Boxes.{points_west, points_east, points_south, points_north, points_bottom, points_top}

-- ---- the plane that three points span
abbrev symbol_step : PointSymbols → PointSymbols → PointSymbols
symbol_step from to = record { x = to.x ⊖ from.x; y = to.y ⊖ from.y; z = to.z ⊖ from.z; w = number (pos 0) }

abbrev symbol_cross : PointSymbols → PointSymbols → PointSymbols
symbol_cross a b = record { x = a.y ⊗ b.z ⊖ a.z ⊗ b.y; y = a.z ⊗ b.x ⊖ a.x ⊗ b.z; z = a.x ⊗ b.y ⊖ a.y ⊗ b.x; w = number (pos 0) }

abbrev symbol_outward : PointSymbols → PointSymbols → PointSymbols → PlaneSymbols
symbol_outward p0 p1 p2 =
    let n = symbol_cross (symbol_step p1 p0) (symbol_step p1 p2) in
    record { nx = n.x; ny = n.y; nz = n.z; d = n.x ⊗ p1.x ⊕ n.y ⊗ p1.y ⊕ n.z ⊗ p1.z }

-- the plane in space, whose numbers are over thousandths
abbrev symbol_in_space : PlaneSymbols → PlaneSymbols
symbol_in_space h =
    let w = number (pos 1000) in
    record { nx = w ⊗ h.nx; ny = w ⊗ h.ny; nz = w ⊗ h.nz; d = h.d }

abbrev symbol_point : Expression → Expression → Expression → PointSymbols
symbol_point x y z = record { x = x; y = y; z = z; w = number (pos 1000) }

-- by how much the plane of a face is a multiple of the plane in lowest terms
abbrev pub billion : ℤ
billion = pos 1000000000

-- the outward plane of three points
abbrev pub spanned_by : List (List ℤ) → Plane
spanned_by points = spanned_plane (point_at points 0) (point_at points 1) (point_at points 2)

-- ---- a plane across an axis, in lowest terms

pub record IsUnitPlane (h : Plane) : Type 0 where
  pub lowest : IsLowest h
  pub leads : IsTrue (leads_positive h)
  pub small : HasSmallNormal h
  pub multiple_normal : HasNormal (scaled billion h)
  pub multiple_leads : IsTrue (leads_positive (scaled billion h))

abbrev pub across_x : ℤ → Plane
across_x c = record { nx = pos 1; ny = pos 0; nz = pos 0; d = c }

abbrev pub across_y : ℤ → Plane
across_y c = record { nx = pos 0; ny = pos 1; nz = pos 0; d = c }

abbrev pub across_z : ℤ → Plane
across_z c = record { nx = pos 0; ny = pos 0; nz = pos 1; d = c }

unit_x : (c : ℤ) → IsUnitPlane (across_x c)
unit_x c = record {
  lowest = λ k x y z d. eq-one_of_dvd-one x;
  leads = refl;
  small = record { x = lit≤ tt; y = lit≤ tt; z = lit≤ tt };
  multiple_normal = λ x y z. absurd (omega (arith, ints, x));
  multiple_leads = refl;
}

unit_y : (c : ℤ) → IsUnitPlane (across_y c)
unit_y c = record {
  lowest = λ k x y z d. eq-one_of_dvd-one y;
  leads = refl;
  small = record { x = lit≤ tt; y = lit≤ tt; z = lit≤ tt };
  multiple_normal = λ x y z. absurd (omega (arith, ints, y));
  multiple_leads = refl;
}

unit_z : (c : ℤ) → IsUnitPlane (across_z c)
unit_z c = record {
  lowest = λ k x y z d. eq-one_of_dvd-one z;
  leads = refl;
  small = record { x = lit≤ tt; y = lit≤ tt; z = lit≤ tt };
  multiple_normal = λ x y z. absurd (omega (arith, ints, z));
  multiple_leads = refl;
}

-- a multiple of it, brought to lowest terms
reduced_unit : (h : Plane) → IsUnitPlane h → reduced (scaled billion h) ≡ h
reduced_unit h unit =
    let large = scaled billion h in
    let some = common_factor_positive large unit.multiple_normal in
    (multiples_equal (pos (common_factor large)) billion (reduced large) h
    (λ none. absurd (omega (arith, ints))) (λ none. absurd (omega (arith, ints)))
    (reduced_back large)
    (λ k x y z d. reduced_lowest large unit.multiple_normal k (record { nx = x; ny = y; nz = z; d = d })) unit.lowest
    (reduced_leads large unit.multiple_normal ∙ unit.multiple_leads) unit.leads).0

-- points that span a multiple of it give a plane
given : (points : List (List ℤ)) (h : Plane) → IsUnitPlane h → turned (leads_positive (spanned_by points)) (spanned_by points) ≡ scaled billion h → SpanPlane points → GivePlane points
unfolding plane_through
given points h unit is spans =
    let through : (plane_through (point_at points 0) (point_at points 1) (point_at points 2)).0 ≡ h = ap reduced is ∙ reduced_unit h unit in
    record {
      spans = spans;
      not_too_fine = through_is_fine (point_at points 0) (point_at points 1) (point_at points 2) (subst HasSmallNormal (sym through) unit.small);
    }

-- ---- a side of a box: its points span a multiple of a plane across an axis, turned to the front of that plane or to its back

pub record IsSide (points : List (List ℤ)) (h : Plane) (front : Bool) : Type 0 where
  pub unit : IsUnitPlane h
  pub spans : spanned_by points ≡ scaled billion (turned front h)
  pub leads : leads_positive (scaled billion (turned front h)) ≡ front

twice : (n : ℤ) → neg_ℤ (billion *ℤ neg_ℤ n) ≡ billion *ℤ n
twice n = solved (n ∷ []) (negated (number billion ⊗ negated (variable 0))) (number billion ⊗ variable 0) tt

turned_back : (front : Bool) (h : Plane) → turned front (scaled billion (turned front h)) ≡ scaled billion h
turned_back true h = refl
turned_back false h = same_plane (flipped (scaled billion (flipped h))) (scaled billion h) (twice h.nx) (twice h.ny) (twice h.nz) (twice h.d)

turned_normal : (front : Bool) (h : Plane) → HasNormal (scaled billion h) → HasNormal (scaled billion (turned front h))
turned_normal true h normal = normal
turned_normal false h normal = λ x y z. normal (sym (twice h.nx) ∙ ap neg_ℤ x) (sym (twice h.ny) ∙ ap neg_ℤ y) (sym (twice h.nz) ∙ ap neg_ℤ z)

no_normal_in_space : (w : ℤ) (h : Plane) → HasNoNormal h → HasNormal (in_space w h) → ⊥
unfolding in_space
no_normal_in_space w h flat normal =
    normal (ap (λ (n : ℤ). w *ℤ n) flat.0 ∙ *ℤ_zero w) (ap (λ (n : ℤ). w *ℤ n) flat.1 ∙ *ℤ_zero w) (ap (λ (n : ℤ). w *ℤ n) flat.2 ∙ *ℤ_zero w)

module _ (points : List (List ℤ)) (h : Plane) (front : Bool) (side : IsSide points h front) where
  -- its points give a plane
  pub side_gives : GivePlane points
  side_gives = given points h side.unit is spans
    where
      is : turned (leads_positive (spanned_by points)) (spanned_by points) ≡ scaled billion h
      is =
          ap (λ (o : Plane). turned (leads_positive o) o) side.spans
          ∙ ap (λ (t : Bool). turned t (scaled billion (turned front h))) side.leads
          ∙ turned_back front h

      spans : SpanPlane points
      spans = λ line.
          no_normal_in_space (point_at points 1).w (outward_plane (point_at points 0) (point_at points 1) (point_at points 2))
          (one_line_no_normal (point_at points 0) (point_at points 1) (point_at points 2)
          (thousandths_weights (slice_index_or points 0 []) (slice_index_or points 1 []) (slice_index_or points 2 [])) line)
          (subst HasNormal (sym side.spans) (turned_normal front h side.unit.multiple_normal))

  -- of which the value at a point is a multiple of its value at the plane across the axis
  pub side_value : (p : Point) → value (spanned_by points) p ≡ billion *ℤ value (turned front h) p
  side_value p = ap (λ (g : Plane). value g p) side.spans ∙ value_scaled billion (turned front h) p

-- ---- the six sides

abbrev plane_of : List ℤ → PlaneSymbols → Plane
plane_of zs s = record { nx = value_of zs s.nx; ny = value_of zs s.ny; nz = value_of zs s.nz; d = value_of zs s.d }

planes_solved : (zs : List ℤ) (s t : PlaneSymbols) → AreIdentical s.nx t.nx → AreIdentical s.ny t.ny → AreIdentical s.nz t.nz → AreIdentical s.d t.d → plane_of zs s ≡ plane_of zs t
planes_solved zs s t x y z d =
    same_plane (plane_of zs s) (plane_of zs t) (solved zs s.nx t.nx x) (solved zs s.ny t.ny y) (solved zs s.nz t.nz z) (solved zs s.d t.d d)

module _ (c : ℤ) where
  abbrev at : Expression
  at = number (pos 1000) ⊗ variable 0

  abbrev no : Expression
  no = number (pos 0)

  abbrev one : Expression
  one = number (pos 1000)

  abbrev symbols : PointSymbols → PointSymbols → PointSymbols → PlaneSymbols
  symbols p0 p1 p2 = symbol_in_space (symbol_outward p0 p1 p2)

  -- the plane across an axis, by its normal
  abbrev across : ℤ → ℤ → ℤ → PlaneSymbols
  across x y z = record { nx = number x; ny = number y; nz = number z; d = variable 0 }

  abbrev multiple : PlaneSymbols → PlaneSymbols
  multiple h = symbol_scaled (number billion) h

  pub west_side : IsSide (points_west c) (across_x c) false
  unfolding outward_plane in_space
  west_side = record {
    unit = unit_x c;
    spans = planes_solved (c ∷ []) (symbols (symbol_point at no no) (symbol_point at one no) (symbol_point at no one)) (multiple (symbol_flipped (across (pos 1) (pos 0) (pos 0)))) tt tt tt tt;
    leads = refl;
  }

  pub east_side : IsSide (points_east c) (across_x c) true
  unfolding outward_plane in_space
  east_side = record {
    unit = unit_x c;
    spans = planes_solved (c ∷ []) (symbols (symbol_point at no no) (symbol_point at no one) (symbol_point at one no)) (multiple (across (pos 1) (pos 0) (pos 0))) tt tt tt tt;
    leads = refl;
  }

  pub south_side : IsSide (points_south c) (across_y c) false
  unfolding outward_plane in_space
  south_side = record {
    unit = unit_y c;
    spans = planes_solved (c ∷ []) (symbols (symbol_point no at no) (symbol_point no at one) (symbol_point one at no)) (multiple (symbol_flipped (across (pos 0) (pos 1) (pos 0)))) tt tt tt tt;
    leads = refl;
  }

  pub north_side : IsSide (points_north c) (across_y c) true
  unfolding outward_plane in_space
  north_side = record {
    unit = unit_y c;
    spans = planes_solved (c ∷ []) (symbols (symbol_point no at no) (symbol_point one at no) (symbol_point no at one)) (multiple (across (pos 0) (pos 1) (pos 0))) tt tt tt tt;
    leads = refl;
  }

  pub bottom_side : IsSide (points_bottom c) (across_z c) false
  unfolding outward_plane in_space
  bottom_side = record {
    unit = unit_z c;
    spans = planes_solved (c ∷ []) (symbols (symbol_point no no at) (symbol_point one no at) (symbol_point no one at)) (multiple (symbol_flipped (across (pos 0) (pos 0) (pos 1)))) tt tt tt tt;
    leads = refl;
  }

  pub top_side : IsSide (points_top c) (across_z c) true
  unfolding outward_plane in_space
  top_side = record {
    unit = unit_z c;
    spans = planes_solved (c ∷ []) (symbols (symbol_point no no at) (symbol_point no one at) (symbol_point one no at)) (multiple (across (pos 0) (pos 0) (pos 1))) tt tt tt tt;
    leads = refl;
  }

  -- and how far a point lies beyond each of them, times its w
  module _ (p : Point) where
    abbrev beyond : Bool → ℤ → ℤ → ℤ → Expression
    beyond true x y z = symbol_value (across x y z) (point_from 1)
    beyond false x y z = symbol_value (symbol_flipped (across x y z)) (point_from 1)

    pub beyond_west : value (turned false (across_x c)) p ≡ (c *ℤ p.w) -ℤ p.x
    unfolding value
    beyond_west = solved (c ∷ numbers_of_point p []) (beyond false (pos 1) (pos 0) (pos 0)) (variable 0 ⊗ variable 4 ⊖ variable 1) tt

    pub beyond_east : value (turned true (across_x c)) p ≡ p.x -ℤ (c *ℤ p.w)
    unfolding value
    beyond_east = solved (c ∷ numbers_of_point p []) (beyond true (pos 1) (pos 0) (pos 0)) (variable 1 ⊖ variable 0 ⊗ variable 4) tt

    pub beyond_south : value (turned false (across_y c)) p ≡ (c *ℤ p.w) -ℤ p.y
    unfolding value
    beyond_south = solved (c ∷ numbers_of_point p []) (beyond false (pos 0) (pos 1) (pos 0)) (variable 0 ⊗ variable 4 ⊖ variable 2) tt

    pub beyond_north : value (turned true (across_y c)) p ≡ p.y -ℤ (c *ℤ p.w)
    unfolding value
    beyond_north = solved (c ∷ numbers_of_point p []) (beyond true (pos 0) (pos 1) (pos 0)) (variable 2 ⊖ variable 0 ⊗ variable 4) tt

    pub beyond_bottom : value (turned false (across_z c)) p ≡ (c *ℤ p.w) -ℤ p.z
    unfolding value
    beyond_bottom = solved (c ∷ numbers_of_point p []) (beyond false (pos 0) (pos 0) (pos 1)) (variable 0 ⊗ variable 4 ⊖ variable 3) tt

    pub beyond_top : value (turned true (across_z c)) p ≡ p.z -ℤ (c *ℤ p.w)
    unfolding value
    beyond_top = solved (c ∷ numbers_of_point p []) (beyond true (pos 0) (pos 0) (pos 1)) (variable 3 ⊖ variable 0 ⊗ variable 4) tt
