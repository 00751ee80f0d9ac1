-- The normal of three whole points in lowest terms: there is one, up to its sign, where they do not lie on one line.
use Rattle.std.proofs.Common.{◌≡◌, ℕ, ◌<◌, Bool, true, false, not, IsTrue, ℤ, pos, neg_ℤ, ◌+ℤ◌, ◌*ℤ◌, [], ◌∷◌, refl, ap, sym, subst, ◌∙◌, arith, unsigned_abs, int_div, ◌↔◌}
use Rattle.std.specs.Int.{◌∣◌}
use Rattle.std.proofs.lemmas.Int.{ints}
use Rattle.std.proofs.lemmas.Nat.Gcd.{dvd-zero, dvd_trans, dvd_antisymm}
use Rattle.std.proofs.Math.Nat.{dvd-mul_right}
use Rattle.qm_numbers.proofs.IntegerProducts.{linear, *ℤ_zero}
use Rattle.qm_separators.proofs.Comparisons.{neg-*ℤ-neg}
use Rattle.qm_numbers.proofs.Signs.{abs_neg, abs_product, zero_beside, zero_beside_positive}
use Rattle.qm_numbers.specs.Gcd.{gcd}
use Rattle.qm_numbers.proofs.Divisors.{exact_division, gcd_divides_left, gcd_divides_right, divides_gcd}
use Rattle.qm_numbers.proofs.Ring.{variable, number, negated, ◌⊕◌, ◌⊗◌, solved}
use Rattle.qm_space.specs.Point.{Point, point_times}
use Rattle.qm_space.specs.Plane.{Plane, value, IsOn, flipped, scaled}
use Rattle.qm_space.specs.Vector.{normal_of}
use Rattle.qm_space.specs.Reduced.{leads_positive, HasNormal}
use Rattle.qm_space.specs.ThreePoints.{outward_plane, common_factor, reduced}
use Rattle.qm_space.proofs.Planes.{same_point, value_scaled}
use Rattle.qm_space.proofs.PlaneSymbols.{point_from, numbers_of_point}
use Rattle.qm_separators.proofs.OutwardPlanes.{symbol_outward, outward_holds_second}
use Rattle.qm_space.proofs.ReducedPlanes.{same_plane, scaled_neg, scaled_flipped, flipped_twice, leads_flipped, IsLowest, multiples_equal, common_factor_positive, reduced_back, common_factor_divides, divides_common_factor, reduced_lowest}
use Rattle.qm_separators.specs.Across.{HasLowestNormal, HasNormalOf}
use Rattle.qm_separators.specs.inner.NormalLike.{HasNormalLike, alike, opposite}

-- ---- a plane through a whole point: what divides its normal divides its distance

pub divides_distance : (k : ℕ) (h : Plane) (p : Point) → p.w ≡ pos 1 → IsOn h p → k ∣ unsigned_abs h.nx → k ∣ unsigned_abs h.ny → k ∣ unsigned_abs h.nz → k ∣ unsigned_abs h.d
unfolding value
divides_distance k h p weight on x y z = subst (λ (n : ℕ). k ∣ n) (sym (ap unsigned_abs multiple ∙ abs_product (pos k) total)) (dvd-mul_right k (unsigned_abs total))
  where
    total : ℤ
    total = ((int_div h.nx (pos k) *ℤ p.x) +ℤ (int_div h.ny (pos k) *ℤ p.y)) +ℤ (int_div h.nz (pos k) *ℤ p.z)

    multiple : h.d ≡ pos k *ℤ total
    multiple =
        let t = variable in
        let a = solved (pos k ∷ int_div h.nx (pos k) ∷ int_div h.ny (pos k) ∷ int_div h.nz (pos k) ∷ p.x ∷ p.y ∷ p.z ∷ [])
        (t 0 ⊗ (t 1 ⊗ t 4 ⊕ t 2 ⊗ t 5 ⊕ t 3 ⊗ t 6)) ((t 0 ⊗ t 1) ⊗ t 4 ⊕ (t 0 ⊗ t 2) ⊗ t 5 ⊕ (t 0 ⊗ t 3) ⊗ t 6) tt in
        let b = ap (λ v. v *ℤ p.x) (exact_division h.nx k x) in
        let c = ap (λ v. v *ℤ p.y) (exact_division h.ny k y) in
        let d = ap (λ v. v *ℤ p.z) (exact_division h.nz k z) in
        let e = ap (λ v. h.d *ℤ v) weight in
        let f : h.d *ℤ pos 1 ≡ h.d = omega (arith, ints) in
        omega (arith, linear)

-- so such a plane, in lowest terms, has its normal in lowest terms too
pub lowest_normal : (out : Plane) (p : Point) → p.w ≡ pos 1 → IsOn out p → HasNormal out → HasLowestNormal (reduced out)
lowest_normal out p weight holds normal k x y z =
    reduced_lowest out normal k (record { nx = x; ny = y; nz = z; d = divides_distance k (reduced out) p weight on x y z })
  where
    on : IsOn (reduced out) p
    on =
        let f = value_scaled (pos (common_factor out)) (reduced out) p in
        let g = ap (λ (h : Plane). value h p) (reduced_back out) in
        let some = common_factor_positive out normal in
        zero_of (common_factor out) (value (reduced out) p) some (sym f ∙ g ∙ holds)
      where
        zero_of : (n : ℕ) (v : ℤ) → 0 < n → pos n *ℤ v ≡ pos 0 → v ≡ pos 0
        zero_of n v p e = zero_beside_positive (pos n) v (omega (arith, ints)) e

-- and so has the plane of three whole points
pub outward_lowest_normal : (at from to : Point) → from.w ≡ pos 1 → HasNormal (outward_plane at from to) → HasLowestNormal (reduced (outward_plane at from to))
outward_lowest_normal at from to weight normal = lowest_normal (outward_plane at from to) from weight (outward_holds_second at from to weight) normal

-- ---- there is one

times_one : (p : Point) → p.w ≡ pos 0 → point_times (pos 1) p ≡ p
times_one p e = same_point (point_times (pos 1) p) p (omega (arith, ints)) (omega (arith, ints)) (omega (arith, ints)) (omega (arith, ints))

pub flipped_lowest_normal : (h : Plane) → HasLowestNormal h → HasLowestNormal (flipped h)
flipped_lowest_normal h l k x y z = l k (subst (λ (n : ℕ). k ∣ n) (abs_neg h.nx) x) (subst (λ (n : ℕ). k ∣ n) (abs_neg h.ny) y) (subst (λ (n : ℕ). k ∣ n) (abs_neg h.nz) z)

pub like_lowest : (g h : Plane) → normal_of g ≡ normal_of h → HasLowestNormal h → HasLowestNormal g
like_lowest g h e l k x y z = l k (subst (λ (n : ℤ). k ∣ unsigned_abs n) (ap (λ (p : Point). p.x) e) x) (subst (λ (n : ℤ). k ∣ unsigned_abs n) (ap (λ (p : Point). p.y) e) y) (subst (λ (n : ℤ). k ∣ unsigned_abs n) (ap (λ (p : Point). p.z) e) z)

-- the factor by which a plane in lowest terms gives the plane back
pub normal_back : (h : Plane) → normal_of h ≡ point_times (pos (common_factor h)) (normal_of (reduced h))
normal_back h =
    let e = reduced_back h in
    same_point (normal_of h) (point_times (pos (common_factor h)) (normal_of (reduced h))) (sym (ap (λ (g : Plane). g.nx) e)) (sym (ap (λ (g : Plane). g.ny) e)) (sym (ap (λ (g : Plane). g.nz) e)) (sym (*ℤ_zero (pos (common_factor h))))

-- the normal of the plane in lowest terms, to either side, is one of the three points
pub normal_of_points : (at from to : Point) (h : Plane) → from.w ≡ pos 1 → HasNormal (outward_plane at from to) → HasNormalLike h (reduced (outward_plane at from to)) → HasNormalOf at from to h
normal_of_points at from to h weight normal (alike e) =
    let out = outward_plane at from to in
    let p = common_factor_positive out normal in
    record {
      factor = pos (common_factor out);
      some_factor = λ z. absurd (omega (arith, ints));
      multiple = normal_back out ∙ ap (point_times (pos (common_factor out))) (sym e);
      lowest = like_lowest h (reduced out) e (outward_lowest_normal at from to weight normal);
    }
normal_of_points at from to h weight normal (opposite e) =
    let out = outward_plane at from to in
    let p = common_factor_positive out normal in
    record {
      factor = neg_ℤ (pos (common_factor out));
      some_factor = λ z. absurd (omega (arith, ints));
      multiple = normal_back out ∙ both (pos (common_factor out)) (reduced out) ∙ ap (point_times (neg_ℤ (pos (common_factor out)))) (sym e);
      lowest = like_lowest h (flipped (reduced out)) e (flipped_lowest_normal (reduced out) (outward_lowest_normal at from to weight normal));
    }
  where
    both : (k : ℤ) (g : Plane) → point_times k (normal_of g) ≡ point_times (neg_ℤ k) (normal_of (flipped g))
    both k g = same_point (point_times k (normal_of g)) (point_times (neg_ℤ k) (normal_of (flipped g))) (sym (neg-*ℤ-neg k g.nx)) (sym (neg-*ℤ-neg k g.ny)) (sym (neg-*ℤ-neg k g.nz)) (*ℤ_zero k ∙ sym (*ℤ_zero (neg_ℤ k)))

-- ---- one alone, up to its sign

-- the plane with the same normal through the origin
abbrev level : Plane → Plane
level h = record { nx = h.nx; ny = h.ny; nz = h.nz; d = pos 0 }

lowest_level : (h : Plane) → HasLowestNormal h → IsLowest (level h)
lowest_level h l k x y z d = l k x y z

pub lowest_has_normal : (h : Plane) → HasLowestNormal h → HasNormal h
lowest_has_normal h l x y z = let e = l 2 (gone h.nx x) (gone h.ny y) (gone h.nz z) in absurd (omega (arith, e))
  where
    gone : (n : ℤ) → n ≡ pos 0 → 2 ∣ unsigned_abs n
    gone n e = subst (λ (m : ℤ). 2 ∣ unsigned_abs m) (sym e) (dvd-zero 2)

level_leads : (h : Plane) → HasLowestNormal h → leads_positive h ≡ false → IsTrue (leads_positive (flipped (level h)))
level_leads h l e = leads_flipped (level h) (lowest_has_normal h l) ∙ ap not e

lowest_flipped_level : (h : Plane) → HasLowestNormal h → IsLowest (flipped (level h))
lowest_flipped_level h l k x y z d = flipped_lowest_normal h l k x y z

module _ (i j : ℤ) (g h : Plane) (some_i : (i ≡ pos 0 → ⊥)) (some_j : (j ≡ pos 0 → ⊥)) (same : scaled i (level g) ≡ scaled j (level h)) (g_lowest : HasLowestNormal g) (h_lowest : HasLowestNormal h) where
  some_other : neg_ℤ j ≡ pos 0 → ⊥
  some_other z = some_j (omega (arith, linear))

  -- the same normal from the same plane
  from_planes : (a b : Plane) → a ≡ b → normal_of a ≡ normal_of b
  from_planes a b e = ap normal_of e

  other : (k : ℤ) (p : Plane) → scaled k p ≡ scaled (neg_ℤ k) (flipped p)
  other k p = sym (flipped_twice (scaled k p)) ∙ ap flipped (sym (scaled_flipped k p)) ∙ sym (scaled_neg k (flipped p))

  turn_back : (a b : Plane) → flipped a ≡ b → a ≡ flipped b
  turn_back a b e = sym (flipped_twice a) ∙ ap flipped e

  by_leads : (a b : Bool) → leads_positive g ≡ a → leads_positive h ≡ b → HasNormalLike g h
  by_leads true true l m = alike (from_planes (level g) (level h) (multiples_equal i j (level g) (level h) some_i some_j same (lowest_level g g_lowest) (lowest_level h h_lowest) l m).0)
  by_leads true false l m =
      opposite (from_planes (level g) (flipped (level h)) (multiples_equal i (neg_ℤ j) (level g) (flipped (level h)) some_i some_other (same ∙ other j (level h)) (lowest_level g g_lowest) (lowest_flipped_level h h_lowest) l (level_leads h h_lowest m)).0)
  by_leads false true l m =
      opposite (from_planes (level g) (flipped (level h)) (turn_back (level g) (level h) (multiples_equal i (neg_ℤ j) (flipped (level g)) (level h) some_i some_other (scaled_flipped i (level g) ∙ ap flipped same ∙ sym (scaled_neg j (level h))) (lowest_flipped_level g g_lowest) (lowest_level h h_lowest) (level_leads g g_lowest l) m).0))
  by_leads false false l m =
      alike (from_planes (level g) (level h) (turn_back (level g) (flipped (level h)) (multiples_equal i j (flipped (level g)) (flipped (level h)) some_i some_j (scaled_flipped i (level g) ∙ ap flipped same ∙ sym (scaled_flipped j (level h))) (lowest_flipped_level g g_lowest) (lowest_flipped_level h h_lowest) (level_leads g g_lowest l) (level_leads h h_lowest m)).0 ∙ flipped_twice (level h)))

  like_by_multiples : HasNormalLike g h
  like_by_multiples = by_leads (leads_positive g) (leads_positive h) refl refl

-- two planes of one such normal have it or its opposite
pub normal_alone : (at from to : Point) (g h : Plane) → HasNormalOf at from to g → HasNormalOf at from to h → HasNormalLike g h
normal_alone at from to g h a b =
    let e = sym a.multiple ∙ b.multiple in
    like_by_multiples a.factor b.factor g h a.some_factor b.some_factor
    (same_plane (scaled a.factor (level g)) (scaled b.factor (level h)) (ap (λ (p : Point). p.x) e) (ap (λ (p : Point). p.y) e) (ap (λ (p : Point). p.z) e) (*ℤ_zero a.factor ∙ sym (*ℤ_zero b.factor)))
    a.lowest b.lowest

-- points on one line give none
pub normal_wants_points : (at from to : Point) (h : Plane) → HasNormalOf at from to h → HasNormal (outward_plane at from to)
normal_wants_points at from to h is x y z = lowest_has_normal h is.lowest
    (gone h.nx (sym (ap (λ (p : Point). p.x) is.multiple) ∙ x))
    (gone h.ny (sym (ap (λ (p : Point). p.y) is.multiple) ∙ y))
    (gone h.nz (sym (ap (λ (p : Point). p.z) is.multiple) ∙ z))
  where
    gone : (n : ℤ) → is.factor *ℤ n ≡ pos 0 → n ≡ pos 0
    gone n e = zero_beside is.factor n is.some_factor e

-- ---- the ends of the edge may be exchanged

module _ (at from to : Point) where
  swapped : normal_of (outward_plane at to from) ≡ point_times (neg_ℤ (pos 1)) (normal_of (outward_plane at from to))
  unfolding outward_plane
  swapped =
      let p = point_from 0 in let q = point_from 4 in let r = point_from 8 in
      let one = symbol_outward p r q in let other = symbol_outward p q r in let minus = negated (number (pos 1)) in
      let zs = numbers_of_point at (numbers_of_point from (numbers_of_point to [])) in
      same_point (normal_of (outward_plane at to from)) (point_times (neg_ℤ (pos 1)) (normal_of (outward_plane at from to))) (solved zs one.nx (minus ⊗ other.nx) tt) (solved zs one.ny (minus ⊗ other.ny) tt) (solved zs one.nz (minus ⊗ other.nz) tt) refl

pub normal_swapped : (at from to : Point) (h : Plane) → HasNormalOf at from to h → HasNormalOf at to from h
normal_swapped at from to h is = record {
  factor = neg_ℤ is.factor;
  some_factor = λ z. is.some_factor (omega (arith, linear));
  multiple = swapped at from to ∙ ap (point_times (neg_ℤ (pos 1))) is.multiple ∙ twice is.factor (normal_of h);
  lowest = is.lowest;
}
  where
    twice : (k : ℤ) (p : Point) → point_times (neg_ℤ (pos 1)) (point_times k p) ≡ point_times (neg_ℤ k) p
    twice k p = same_point (point_times (neg_ℤ (pos 1)) (point_times k p)) (point_times (neg_ℤ k) p) (one k p.x) (one k p.y) (one k p.z) (one k p.w)
      where
        one : (k a : ℤ) → neg_ℤ (pos 1) *ℤ (k *ℤ a) ≡ neg_ℤ k *ℤ a
        one k a = let t = variable in solved (k ∷ a ∷ []) (negated (number (pos 1)) ⊗ (t 0 ⊗ t 1)) (negated (t 0) ⊗ t 1) tt

-- ---- as code makes it

-- the normals of three whole points are those of the plane through them in lowest terms, to either side
pub normals_of_points : (at from to : Point) (h : Plane) → from.w ≡ pos 1 → HasNormal (outward_plane at from to) → HasNormalOf at from to h ↔ HasNormalLike h (reduced (outward_plane at from to))
normals_of_points at from to h weight normal = (
  (λ is. normal_alone at from to h (reduced (outward_plane at from to)) is (normal_of_points at from to (reduced (outward_plane at from to)) weight normal (alike refl))),
  normal_of_points at from to h weight normal,
)

-- the greatest number that divides the normal divides the distance too: it alone brings the plane to lowest terms
pub factor_of_normal : (at from to : Point) → from.w ≡ pos 1 → gcd (gcd (unsigned_abs (outward_plane at from to).nx) (unsigned_abs (outward_plane at from to).ny)) (unsigned_abs (outward_plane at from to).nz) ≡ common_factor (outward_plane at from to)
factor_of_normal at from to weight = dvd_antisymm factor common
  where
    out : Plane
    out = outward_plane at from to

    k : ℕ
    k = gcd (gcd (unsigned_abs out.nx) (unsigned_abs out.ny)) (unsigned_abs out.nz)

    x : k ∣ unsigned_abs out.nx
    x = dvd_trans k (gcd_divides_left (gcd (unsigned_abs out.nx) (unsigned_abs out.ny)) (unsigned_abs out.nz)) (gcd_divides_left (unsigned_abs out.nx) (unsigned_abs out.ny))

    y : k ∣ unsigned_abs out.ny
    y = dvd_trans k (gcd_divides_left (gcd (unsigned_abs out.nx) (unsigned_abs out.ny)) (unsigned_abs out.nz)) (gcd_divides_right (unsigned_abs out.nx) (unsigned_abs out.ny))

    z : k ∣ unsigned_abs out.nz
    z = gcd_divides_right (gcd (unsigned_abs out.nx) (unsigned_abs out.ny)) (unsigned_abs out.nz)

    factor : k ∣ common_factor out
    factor = divides_common_factor k out (record { nx = x; ny = y; nz = z; d = divides_distance k out from weight (outward_holds_second at from to weight) x y z })

    common : common_factor out ∣ k
    common = let c = common_factor_divides out in divides_gcd (gcd (unsigned_abs out.nx) (unsigned_abs out.ny)) (unsigned_abs out.nz) (common_factor out) (divides_gcd (unsigned_abs out.nx) (unsigned_abs out.ny) (common_factor out) c.nx c.ny) c.nz
