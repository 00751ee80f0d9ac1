-- The plane through three points: that it is the only one, that it has no normal exactly where the points lie on one line,
-- and that it is too fine exactly where a component of its normal is beyond the bound.
use Rattle.std.proofs.Common.{◌≡◌, Bool, true, false, not, ℤ, pos, ◌-ℤ◌, ◌*ℤ◌, neg_ℤ, ◌<ℤ◌, [], ◌∷◌, ap, ap₂, sym, refl, subst, ◌∙◌, arith}
use Rattle.std.proofs.lemmas.Int.{ints}
use Rattle.std.proofs.Math.IntN.{*ℤ_comm}
use Rattle.qm_numbers.specs.Gcd.{gcd, gcd_within}
use Rattle.qm_numbers.proofs.Divisors.{divisor_of_four}
use Rattle.qm_space.specs.Point.{Point, thousandths_point}
use Rattle.qm_space.specs.Plane.{Plane, flipped, scaled}
use Rattle.qm_space.specs.Cube.{IsInClosedCube}
use Rattle.qm_space.specs.Reduced.{leads_positive, HasNormal, HasNoNormal, HasSmallNormal, HasLargeNormal, large_z}
use Rattle.qm_space.specs.Turned.{turned}
use Rattle.qm_space.specs.Line.{AreOnOneLine}
use Rattle.qm_space.specs.inner.SpannedSizes.{IsWithinReach}
use Rattle.qm_space.specs.ThreePoints.{outward_plane, in_space, spanned_plane, factor_of, common_factor, reduced, plane_through, IsPlaneThrough, IsPlaneTooFine}
use Rattle.qm_numbers.proofs.IntegerProducts.{linear, zero_*ℤ, one_*ℤ}
use Rattle.qm_numbers.proofs.Signs.{by_zero, zero_beside}
use Rattle.qm_numbers.proofs.Ring.{variable, number, ◌⊖◌, ◌⊗◌, solved}
use Rattle.qm_space.proofs.ReducedPlanes.{scaled_neg, scaled_flipped, flipped_twice, flipped_has_normal, leads_flipped, common_factor_positive, reduced_back, reduced_leads, reduced_is_reduced, multiples_equal}
use Rattle.qm_space.proofs.NormalSizes.{by_normal_size, large_not_small}
use Rattle.qm_space.proofs.CubeDistances.{reach_of_plane, flipped_within_reach, reduced_within_reach}
use Rattle.qm_space.proofs.SpannedPlanes.{in_space_has_normal, spanned_within_reach}
use Rattle.qm_space.proofs.Lines.{HaveOneWeight, HaveStepsOnOneLine, steps_from_line, line_from_steps}

-- ---- the plane through the points

taken_is : (p0 p1 p2 : Point) (out : Plane) (lead : Bool) → spanned_plane p0 p1 p2 ≡ out → leads_positive out ≡ lead → HasNormal out → IsWithinReach out → HasSmallNormal (reduced (turned lead out)) → IsPlaneThrough p0 p1 p2 (reduced (turned lead out)) lead
taken_is p0 p1 p2 out true o e n within small =
    let k = common_factor_positive out n in
    record {
      is_reduced = reduced_is_reduced out n small (reach_of_plane (reduced out) (reduced_within_reach out n within) small);
      leads = reduced_leads out n ∙ e;
      multiple = record { factor = pos (common_factor out); positive = omega (arith, ints); multiple = o ∙ sym (reduced_back out) };
    }
taken_is p0 p1 p2 out false o e n within small =
    let m = flipped_has_normal out n in
    let k = common_factor_positive (flipped out) m in
    record {
      is_reduced = reduced_is_reduced (flipped out) m small (reach_of_plane (reduced (flipped out)) (reduced_within_reach (flipped out) m (flipped_within_reach out within)) small);
      leads = reduced_leads (flipped out) m ∙ leads_flipped out n ∙ ap not e;
      multiple = record { factor = pos (common_factor (flipped out)); positive = omega (arith, ints); multiple = o ∙ sym (turned_back out) };
    }
  where
    turned_back : (h : Plane) → scaled (pos (common_factor (flipped h))) (flipped (reduced (flipped h))) ≡ h
    turned_back h = scaled_flipped (pos (common_factor (flipped h))) (reduced (flipped h)) ∙ ap flipped (reduced_back (flipped h)) ∙ flipped_twice h

-- where the outward plane has a normal, and the plane in lowest terms a small one, it is the plane through the points
pub plane_through_is : (p0 p1 p2 : Point) → IsInClosedCube p1 → HasNormal (outward_plane p0 p1 p2) → HasSmallNormal (plane_through p0 p1 p2).0 → IsPlaneThrough p0 p1 p2 (plane_through p0 p1 p2).0 (plane_through p0 p1 p2).1
unfolding plane_through
plane_through_is p0 p1 p2 inside n small =
    taken_is p0 p1 p2 (spanned_plane p0 p1 p2) (leads_positive (spanned_plane p0 p1 p2)) refl refl
    (in_space_has_normal p1.w (outward_plane p0 p1 p2) (λ zero. let w = inside.weight in absurd (omega (arith, linear))) n)
    (spanned_within_reach p0 p1 p2 inside) small

-- ---- three points on one line

-- a plane has a normal or none
pub by_normal : {P : Type 0} (h : Plane) → (HasNormal h → P) → (HasNoNormal h → P) → P
by_normal h y n =
    by_zero h.nx (λ x. by_zero h.ny (λ y'. by_zero h.nz (λ z. n (x, y', z)) (λ f. y (λ _ _ z. f z))) (λ f. y (λ _ z _. f z))) (λ f. y (λ z _ _. f z))

-- two steps of which multiples are equal have no cross product
across : (i j a b c d : ℤ) → i *ℤ a ≡ j *ℤ c → i *ℤ b ≡ j *ℤ d → (i ≡ pos 0 → j ≡ pos 0 → ⊥) → (a *ℤ d) -ℤ (b *ℤ c) ≡ pos 0
across i j a b c d e f n =
    let v = variable in
    let zs = i ∷ j ∷ a ∷ b ∷ c ∷ d ∷ [] in
    let first : i *ℤ ((a *ℤ d) -ℤ (b *ℤ c)) ≡ pos 0 =
    solved zs (v 0 ⊗ (v 2 ⊗ v 5 ⊖ v 3 ⊗ v 4)) ((v 0 ⊗ v 2) ⊗ v 5 ⊖ (v 0 ⊗ v 3) ⊗ v 4) tt
    ∙ ap₂ (λ x y. (x *ℤ d) -ℤ (y *ℤ c)) e f
    ∙ solved zs ((v 1 ⊗ v 4) ⊗ v 5 ⊖ (v 1 ⊗ v 5) ⊗ v 4) (number (pos 0)) tt in
    let second : j *ℤ ((a *ℤ d) -ℤ (b *ℤ c)) ≡ pos 0 =
    solved zs (v 1 ⊗ (v 2 ⊗ v 5 ⊖ v 3 ⊗ v 4)) (v 2 ⊗ (v 1 ⊗ v 5) ⊖ v 3 ⊗ (v 1 ⊗ v 4)) tt
    ∙ ap₂ (λ x y. (a *ℤ x) -ℤ (b *ℤ y)) (sym f) (sym e)
    ∙ solved zs (v 2 ⊗ (v 0 ⊗ v 3) ⊖ v 3 ⊗ (v 0 ⊗ v 2)) (number (pos 0)) tt in
    by_zero i
    (λ h. zero_beside j ((a *ℤ d) -ℤ (b *ℤ c)) (n h) second)
    (λ h. zero_beside i ((a *ℤ d) -ℤ (b *ℤ c)) h first)

-- points on one line have an outward plane with no normal
steps_no_normal : (p0 p1 p2 : Point) → HaveStepsOnOneLine p0 p1 p2 → HasNoNormal (outward_plane p0 p1 p2)
unfolding outward_plane
steps_no_normal p0 p1 p2 l =
    let ax = p0.x -ℤ p1.x in let ay = p0.y -ℤ p1.y in let az = p0.z -ℤ p1.z in
    let bx = p2.x -ℤ p1.x in let by = p2.y -ℤ p1.y in let bz = p2.z -ℤ p1.z in
    (across l.i l.j ay az by bz l.y l.z l.some, across l.i l.j az ax bz bx l.z l.x l.some, across l.i l.j ax ay bx by l.x l.y l.some)

pub one_line_no_normal : (p0 p1 p2 : Point) → HaveOneWeight p0 p1 p2 → AreOnOneLine p0 p1 p2 → HasNoNormal (outward_plane p0 p1 p2)
one_line_no_normal p0 p1 p2 h l = steps_no_normal p0 p1 p2 (steps_from_line p0 p1 p2 h l)

-- the multiples of two steps a and b that make them equal, from one number of a that is not 0
crossed : (a b c d : ℤ) → (a *ℤ d) -ℤ (b *ℤ c) ≡ pos 0 → c *ℤ b ≡ a *ℤ d
crossed a b c d e = let f = *ℤ_comm b c in omega (arith, linear)

crossed_back : (a b c d : ℤ) → (b *ℤ c) -ℤ (a *ℤ d) ≡ pos 0 → c *ℤ b ≡ a *ℤ d
crossed_back a b c d e = let f = *ℤ_comm b c in omega (arith, linear)

-- points whose outward plane has no normal are on one line
no_normal_steps : (p0 p1 p2 : Point) → HasNoNormal (outward_plane p0 p1 p2) → HaveStepsOnOneLine p0 p1 p2
unfolding outward_plane
no_normal_steps p0 p1 p2 n =
    let ax = p0.x -ℤ p1.x in let ay = p0.y -ℤ p1.y in let az = p0.z -ℤ p1.z in
    let bx = p2.x -ℤ p1.x in let by = p2.y -ℤ p1.y in let bz = p2.z -ℤ p1.z in
    by_zero ax
    (λ x. by_zero ay
    (λ y. by_zero az
    (λ z. record { i = pos 1; j = pos 0; some = λ e _. absurd (omega (arith, ints)); x = still ax bx x; y = still ay by y; z = still az bz z })
    (λ f. record { i = bz; j = az; some = λ _ e. f e; x = crossed az ax bz bx n.1; y = crossed_back az ay bz by n.0; z = *ℤ_comm bz az }))
    (λ f. record { i = by; j = ay; some = λ _ e. f e; x = crossed_back ay ax by bx n.2; y = *ℤ_comm by ay; z = crossed ay az by bz n.0 }))
    (λ f. record { i = bx; j = ax; some = λ _ e. f e; x = *ℤ_comm bx ax; y = crossed ax ay bx by n.2; z = crossed_back ax az bx bz n.1 })
  where
    still : (a b : ℤ) → a ≡ pos 0 → pos 1 *ℤ a ≡ pos 0 *ℤ b
    still a b e = one_*ℤ a ∙ e ∙ sym (zero_*ℤ b)

pub no_normal_one_line : (p0 p1 p2 : Point) → HaveOneWeight p0 p1 p2 → HasNoNormal (outward_plane p0 p1 p2) → AreOnOneLine p0 p1 p2
no_normal_one_line p0 p1 p2 h n = line_from_steps p0 p1 p2 h (no_normal_steps p0 p1 p2 n)

-- points that are on no line have an outward plane with a normal
pub normal_off_line : (p0 p1 p2 : Point) → HaveOneWeight p0 p1 p2 → (AreOnOneLine p0 p1 p2 → ⊥) → HasNormal (outward_plane p0 p1 p2)
normal_off_line p0 p1 p2 h n = λ x y z. n (no_normal_one_line p0 p1 p2 h (x, y, z))

-- ---- too fine

-- points on no line, whose plane is not too fine, have a plane through them
pub plane_through_fine : (p0 p1 p2 : Point) → IsInClosedCube p1 → HaveOneWeight p0 p1 p2 → (AreOnOneLine p0 p1 p2 → ⊥) → (IsPlaneTooFine p0 p1 p2 → ⊥) → IsPlaneThrough p0 p1 p2 (plane_through p0 p1 p2).0 (plane_through p0 p1 p2).1
plane_through_fine p0 p1 p2 inside h apart fine = by_normal_size (plane_through p0 p1 p2).0
    (λ small. plane_through_is p0 p1 p2 inside (normal_off_line p0 p1 p2 h apart) small)
    (λ large. absurd (fine (record { apart = apart; large = large })))

-- and points that have one have a plane that is not too fine
pub through_is_fine : (p0 p1 p2 : Point) → HasSmallNormal (plane_through p0 p1 p2).0 → IsPlaneTooFine p0 p1 p2 → ⊥
through_is_fine p0 p1 p2 small fine = large_not_small (plane_through p0 p1 p2).0 fine.large small

-- ---- there is at most one

-- a positive multiple of a turned plane is a multiple of the plane, whose sign is the side
abbrev side_factor : Bool → ℤ → ℤ
side_factor true k = k
side_factor false k = neg_ℤ k

side_not_zero : (b : Bool) (k : ℤ) → pos 0 <ℤ k → side_factor b k ≡ pos 0 → ⊥
side_not_zero true k p e = absurd (omega (arith, linear))
side_not_zero false k p e = absurd (omega (arith, linear))

side_multiple : (b : Bool) (k : ℤ) (h : Plane) → scaled k (turned b h) ≡ scaled (side_factor b k) h
side_multiple true k h = refl
side_multiple false k h = scaled_flipped k h ∙ sym (scaled_neg k h)

-- the same numbers in lowest terms, led by a positive one: multiples of them are equal only where they and the factors are
pub through_unique : (p0 p1 p2 : Point) (g h : Plane) (a b : Bool) → IsPlaneThrough p0 p1 p2 g a → IsPlaneThrough p0 p1 p2 h b → (g ≡ h) × (a ≡ b)
through_unique p0 p1 p2 g h a b s t =
    let r = multiples_equal (side_factor a s.multiple.factor) (side_factor b t.multiple.factor) g h
    (side_not_zero a s.multiple.factor s.multiple.positive) (side_not_zero b t.multiple.factor t.multiple.positive)
    (sym (side_multiple a s.multiple.factor g) ∙ sym s.multiple.multiple ∙ t.multiple.multiple ∙ side_multiple b t.multiple.factor h) (s.is_reduced).lowest (t.is_reduced).lowest s.leads t.leads in
    (r.0, one_flag a b s.multiple.factor t.multiple.factor s.multiple.positive t.multiple.positive r.1)
  where
    one_flag : (a b : Bool) (j k : ℤ) → pos 0 <ℤ j → pos 0 <ℤ k → side_factor a j ≡ side_factor b k → a ≡ b
    one_flag true true j k p q e = refl
    one_flag false false j k p q e = refl
    one_flag true false j k p q e = absurd (omega (arith, linear))
    one_flag false true j k p q e = absurd (omega (arith, linear))

-- worked rows
row_two : plane_through (record { x = pos 128; y = pos 0; z = pos 0; w = pos 1 }) (record { x = pos 128; y = pos 1; z = pos 0; w = pos 1 }) (record { x = pos 128; y = pos 0; z = pos 1; w = pos 1 }) ≡ (record { nx = pos 1; ny = pos 0; nz = pos 0; d = pos 128 }, false)
unfolding plane_through in_space outward_plane reduced common_factor factor_of divisor_of_four gcd gcd_within
row_two = refl

row_big : plane_through (record { x = pos 4096; y = neg_ℤ (pos 4095); z = pos 0; w = pos 1 }) (record { x = neg_ℤ (pos 4096); y = neg_ℤ (pos 4096); z = pos 0; w = pos 1 }) (record { x = neg_ℤ (pos 4095); y = pos 4096; z = pos 1; w = pos 1 }) ≡ (record { nx = pos 1; ny = neg_ℤ (pos 8192); nz = pos 67108863; d = pos 33550336 }, true)
unfolding plane_through in_space outward_plane reduced common_factor factor_of divisor_of_four gcd gcd_within
row_big = refl

-- in thousandths: a face at one half
abbrev at : ℤ → ℤ → ℤ → Point
at x y z = thousandths_point (x ∷ y ∷ z ∷ [])

row_half : plane_through (at (pos 500) (pos 0) (pos 0)) (at (pos 500) (pos 1000) (pos 0)) (at (pos 500) (pos 0) (pos 1000)) ≡ (record { nx = pos 2; ny = pos 0; nz = pos 0; d = pos 1 }, false)
unfolding plane_through in_space outward_plane reduced common_factor factor_of divisor_of_four gcd gcd_within
row_half = refl

-- the finest plane but one, and one that is too fine
row_finest : plane_through (at (pos 8192000) (pos 1000) (pos 0)) (at (pos 0) (pos 0) (pos 0)) (at (pos 0) (pos 8192000) (pos 1000)) ≡ (record { nx = pos 1; ny = neg_ℤ (pos 8192); nz = pos 67108864; d = pos 0 }, true)
unfolding plane_through in_space outward_plane reduced common_factor factor_of divisor_of_four gcd gcd_within
row_finest = refl

row_finer : plane_through (at (pos 10000000) (pos 1000) (pos 0)) (at (pos 0) (pos 0) (pos 0)) (at (pos 1000) (pos 10000000) (pos 1000)) ≡ (record { nx = pos 1; ny = neg_ℤ (pos 10000); nz = pos 99999999; d = pos 0 }, true)
unfolding plane_through in_space outward_plane reduced common_factor factor_of divisor_of_four gcd gcd_within
row_finer = refl

row_too_fine : IsPlaneTooFine (at (pos 10000000) (pos 1000) (pos 0)) (at (pos 0) (pos 0) (pos 0)) (at (pos 1000) (pos 10000000) (pos 1000))
unfolding outward_plane
row_too_fine = record {
  apart = λ line. let none = one_line_no_normal (at (pos 10000000) (pos 1000) (pos 0)) (at (pos 0) (pos 0) (pos 0)) (at (pos 1000) (pos 10000000) (pos 1000)) (record { weight = omega (arith, ints); first = refl; third = refl }) line in
      let x : pos 1000000 ≡ pos 0 = none.0 in
      absurd (omega (arith, ints));
  large = subst (λ (r : Plane × Bool). HasLargeNormal r.0) (sym row_finer) (large_z (omega arith));
}
