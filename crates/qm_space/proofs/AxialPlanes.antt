-- A plane across an axis that has a point in thousandths of a map unit: its numbers in lowest terms are 1000 and the
-- point's coordinate, divided by their common factor.
use Rattle.std.proofs.Common.{◌≡◌, ◌∙◌, ℕ, ℤ, pos, neg_ℤ, ◌*ℤ◌, Bool, true, false, IsTrue, List, ap, refl, sym, arith, unsigned_abs, int_div}
use Rattle.std.proofs.lemmas.Int.{ints}
use Rattle.std.proofs.Math.IntN.{*ℤ_comm}
use Rattle.qm_numbers.specs.Gcd.{gcd, gcd_within}
use Rattle.qm_numbers.proofs.Divisors.{divisor_of_four, gcd_swapped}
use Rattle.qm_numbers.proofs.IntegerProducts.{linear, *ℤ_zero, zero_*ℤ}
use Rattle.qm_numbers.proofs.Kept.{quotient_small}
use Rattle.qm_numbers.proofs.Signs.{abs_zero}
use Rattle.qm_space.specs.Point.{Point, thousandths_point}
use Rattle.qm_space.specs.Plane.{Plane, plane_of, scaled, value, IsOn}
use Rattle.qm_space.specs.Reduced.{leads_positive, HasNormal}
use Rattle.qm_space.specs.Turned.{turned}
use Rattle.qm_space.specs.ThreePoints.{factor_of, common_factor, reduced}
use Rattle.qm_space.proofs.ReducedPlanes.{same_plane, leading_has_normal}
use Rattle.qm_space.proofs.TurnedPlanes.{turned_on}
use Rattle.qm_space.proofs.LowestMultiples.{lowest_of_multiples, turned_leads}

-- ---- the planes of a coordinate in thousandths

factor_x : (c : ℤ) → common_factor (plane_of (pos 1000) (pos 0) (pos 0) c) ≡ gcd (unsigned_abs c) 1000
unfolding common_factor factor_of divisor_of_four gcd gcd_within
factor_x c = gcd_swapped 1000 (unsigned_abs c)

factor_y : (c : ℤ) → common_factor (plane_of (pos 0) (pos 1000) (pos 0) c) ≡ gcd (unsigned_abs c) 1000
unfolding common_factor factor_of divisor_of_four gcd gcd_within
factor_y c = gcd_swapped 1000 (unsigned_abs c)

factor_z : (c : ℤ) → common_factor (plane_of (pos 0) (pos 0) (pos 1000) c) ≡ gcd (unsigned_abs c) 1000
unfolding common_factor factor_of divisor_of_four gcd gcd_within
factor_z c = gcd_swapped 1000 (unsigned_abs c)

nothing_divided : (k : ℕ) → pos 0 ≡ int_div (pos 0) (pos k)
nothing_divided k = sym (abs_zero (int_div (pos 0) (pos k)) (let s = quotient_small (pos 0) k in omega arith))

module _ (c : ℤ) (k : ℕ) (factor : k ≡ gcd (unsigned_abs c) 1000) where
  pub reduced_x : plane_of (int_div (pos 1000) (pos k)) (pos 0) (pos 0) (int_div c (pos k)) ≡ reduced (plane_of (pos 1000) (pos 0) (pos 0) c)
  unfolding reduced
  reduced_x =
      let e = factor ∙ sym (factor_x c) in let h = plane_of (pos 1000) (pos 0) (pos 0) c in
      same_plane (plane_of (int_div (pos 1000) (pos k)) (pos 0) (pos 0) (int_div c (pos k))) (reduced h)
      (ap (λ (n : ℕ). int_div (pos 1000) (pos n)) e) (nothing_divided (common_factor h)) (nothing_divided (common_factor h)) (ap (λ (n : ℕ). int_div c (pos n)) e)

  pub reduced_y : plane_of (pos 0) (int_div (pos 1000) (pos k)) (pos 0) (int_div c (pos k)) ≡ reduced (plane_of (pos 0) (pos 1000) (pos 0) c)
  unfolding reduced
  reduced_y =
      let e = factor ∙ sym (factor_y c) in let h = plane_of (pos 0) (pos 1000) (pos 0) c in
      same_plane (plane_of (pos 0) (int_div (pos 1000) (pos k)) (pos 0) (int_div c (pos k))) (reduced h)
      (nothing_divided (common_factor h)) (ap (λ (n : ℕ). int_div (pos 1000) (pos n)) e) (nothing_divided (common_factor h)) (ap (λ (n : ℕ). int_div c (pos n)) e)

  pub reduced_z : plane_of (pos 0) (pos 0) (int_div (pos 1000) (pos k)) (int_div c (pos k)) ≡ reduced (plane_of (pos 0) (pos 0) (pos 1000) c)
  unfolding reduced
  reduced_z =
      let e = factor ∙ sym (factor_z c) in let h = plane_of (pos 0) (pos 0) (pos 1000) c in
      same_plane (plane_of (pos 0) (pos 0) (int_div (pos 1000) (pos k)) (int_div c (pos k))) (reduced h)
      (nothing_divided (common_factor h)) (nothing_divided (common_factor h)) (ap (λ (n : ℕ). int_div (pos 1000) (pos n)) e) (ap (λ (n : ℕ). int_div c (pos n)) e)

-- ---- a plane whose normal lies along an axis is that of its point's coordinate

both_zero : (a b n : ℤ) → n ≡ pos 0 → a *ℤ n ≡ b *ℤ pos 0
both_zero a b n zero = ap (λ (m : ℤ). a *ℤ m) zero ∙ *ℤ_zero a ∙ sym (*ℤ_zero b)

none_along : (n c : ℤ) → n ≡ pos 0 → n *ℤ c ≡ pos 0
none_along n c zero = ap (λ (m : ℤ). m *ℤ c) zero ∙ zero_*ℤ c

module _ (h : Plane) (at : List ℤ) (on : IsOn h (thousandths_point at)) (leads : IsTrue (leads_positive h)) where
  abbrev p : Point
  p = thousandths_point at

  along_x : h.ny ≡ pos 0 → h.nz ≡ pos 0 → reduced h ≡ reduced (plane_of (pos 1000) (pos 0) (pos 0) p.x)
  unfolding value
  along_x y z =
      let one = none_along h.ny p.y y in let other = none_along h.nz p.z z in let turn = *ℤ_comm h.d (pos 1000) in let o = on in
      lowest_of_multiples (pos 1000) h.nx h (plane_of (pos 1000) (pos 0) (pos 0) p.x) (λ e. absurd (omega (arith, ints))) (λ x. leading_has_normal h leads x y z)
      (same_plane (scaled (pos 1000) h) (scaled h.nx (plane_of (pos 1000) (pos 0) (pos 0) p.x))
      (*ℤ_comm (pos 1000) h.nx) (both_zero (pos 1000) h.nx h.ny y) (both_zero (pos 1000) h.nx h.nz z) (omega (arith, linear)))
      leads refl

  along_y : h.nx ≡ pos 0 → h.nz ≡ pos 0 → reduced h ≡ reduced (plane_of (pos 0) (pos 1000) (pos 0) p.y)
  unfolding value
  along_y x z =
      let one = none_along h.nx p.x x in let other = none_along h.nz p.z z in let turn = *ℤ_comm h.d (pos 1000) in let o = on in
      lowest_of_multiples (pos 1000) h.ny h (plane_of (pos 0) (pos 1000) (pos 0) p.y) (λ e. absurd (omega (arith, ints))) (λ y. leading_has_normal h leads x y z)
      (same_plane (scaled (pos 1000) h) (scaled h.ny (plane_of (pos 0) (pos 1000) (pos 0) p.y))
      (both_zero (pos 1000) h.ny h.nx x) (*ℤ_comm (pos 1000) h.ny) (both_zero (pos 1000) h.ny h.nz z) (omega (arith, linear)))
      leads refl

  along_z : h.nx ≡ pos 0 → h.ny ≡ pos 0 → reduced h ≡ reduced (plane_of (pos 0) (pos 0) (pos 1000) p.z)
  unfolding value
  along_z x y =
      let one = none_along h.nx p.x x in let other = none_along h.ny p.y y in let turn = *ℤ_comm h.d (pos 1000) in let o = on in
      lowest_of_multiples (pos 1000) h.nz h (plane_of (pos 0) (pos 0) (pos 1000) p.z) (λ e. absurd (omega (arith, ints))) (λ z. leading_has_normal h leads x y z)
      (same_plane (scaled (pos 1000) h) (scaled h.nz (plane_of (pos 0) (pos 0) (pos 1000) p.z))
      (both_zero (pos 1000) h.nz h.nx x) (both_zero (pos 1000) h.nz h.ny y) (*ℤ_comm (pos 1000) h.nz) (omega (arith, linear)))
      leads refl

-- ---- turned to its positive side

turned_zero : (side : Bool) (h : Plane) (part : Plane → ℤ) → ((g : Plane) → part (turned false g) ≡ neg_ℤ (part g)) → part h ≡ pos 0 → part (turned side h) ≡ pos 0
turned_zero true h part other zero = zero
turned_zero false h part other zero = other h ∙ ap neg_ℤ zero

module _ (h : Plane) (at : List ℤ) (normal : HasNormal h) (on : IsOn h (thousandths_point at)) where
  abbrev lead : Bool
  lead = leads_positive h

  turned_x_zero : h.nx ≡ pos 0 → (turned lead h).nx ≡ pos 0
  turned_x_zero = turned_zero lead h (λ g. g.nx) (λ g. refl)

  turned_y_zero : h.ny ≡ pos 0 → (turned lead h).ny ≡ pos 0
  turned_y_zero = turned_zero lead h (λ g. g.ny) (λ g. refl)

  turned_z_zero : h.nz ≡ pos 0 → (turned lead h).nz ≡ pos 0
  turned_z_zero = turned_zero lead h (λ g. g.nz) (λ g. refl)

  on_turned : IsOn (turned lead h) (thousandths_point at)
  on_turned = (turned_on lead h (thousandths_point at)).1 on

  pub lowest_along_x : h.ny ≡ pos 0 → h.nz ≡ pos 0 → reduced (turned lead h) ≡ reduced (plane_of (pos 1000) (pos 0) (pos 0) (thousandths_point at).x)
  lowest_along_x y z = along_x (turned lead h) at on_turned (turned_leads lead h refl normal) (turned_y_zero y) (turned_z_zero z)

  pub lowest_along_y : h.nx ≡ pos 0 → h.nz ≡ pos 0 → reduced (turned lead h) ≡ reduced (plane_of (pos 0) (pos 1000) (pos 0) (thousandths_point at).y)
  lowest_along_y x z = along_y (turned lead h) at on_turned (turned_leads lead h refl normal) (turned_x_zero x) (turned_z_zero z)

  pub lowest_along_z : h.nx ≡ pos 0 → h.ny ≡ pos 0 → reduced (turned lead h) ≡ reduced (plane_of (pos 0) (pos 0) (pos 1000) (thousandths_point at).z)
  lowest_along_z x y = along_z (turned lead h) at on_turned (turned_leads lead h refl normal) (turned_x_zero x) (turned_y_zero y)
