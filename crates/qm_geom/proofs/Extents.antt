-- Whether a coordinate lies strictly between the cube's faces, as the code tests it.
use Rattle.std.proofs.Common.{◌≡◌, ◌≤◌, ◌^◌, ◌∙◌, ℤ, pos, neg_ℤ, ◌-ℤ◌, ◌*ℤ◌, ◌<ℤ◌, FitsSigned, w64, arith, unsigned_abs, ap, lit≤, refl, Bool, true, false, IsTrue, ◌↔◌, sym, subst}
use Rattle.std.specs.Int.Signed.{lt_z}
use lib.Dec.{T}
use mir.Syntax.{w128}
use Rattle.std.proofs.lemmas.Int.{ints, to_z-of_z}
use Rattle.qm_numbers.proofs.Bits.{kept_128, negated_128}
use Rattle.qm_numbers.proofs.Kept.{kept}
use Rattle.qm_space.specs.Bounds.{extent}
use Rattle.qm_space.specs.Point.{Point, IsWithinExtent, IsInCube}

-- the product of the cube's extent and a weight, and a coordinate, as the code widens them
pub record AreWide (coordinate weight far place : ℤ) : Type 0 where
  pub far_is : far ≡ extent *ℤ weight
  pub far_small : unsigned_abs far ≤ 2 ^ 126
  pub place_is : place ≡ coordinate
  pub place_small : unsigned_abs place ≤ 2 ^ 63

pub wide_numbers : (coordinate weight far place k : ℤ) → k ≡ extent → far ≡ kept w64 k *ℤ kept w64 weight → unsigned_abs far ≤ 2 ^ 126 → FitsSigned w64 weight → place ≡ kept w64 coordinate → FitsSigned w64 coordinate → AreWide coordinate weight far place
wide_numbers coordinate weight far place k k_is far_is far_small weight_fits place_is fits =
    let same = place_is ∙ to_z-of_z w64 coordinate fits in
    record {
      far_is = far_is ∙ ap (λ (n : ℤ). kept w64 n *ℤ kept w64 weight) k_is ∙ ap (λ (n : ℤ). extent *ℤ n) (to_z-of_z w64 weight weight_fits);
      far_small = far_small;
      place_is = same;
      place_small = rw same (size_64 coordinate fits);
    }
  where
    size_64 : (a : ℤ) → FitsSigned w64 a → unsigned_abs a ≤ 2 ^ 63
    size_64 a h = omega (arith, ints)

pub test_above : (coordinate weight far place : ℤ) → AreWide coordinate weight far place → kept w128 (pos 0 -ℤ kept w128 far) ≡ neg_ℤ (extent *ℤ weight)
test_above coordinate weight far place wide =
    let small = wide.far_small in negated_128 far (omega arith) ∙ ap neg_ℤ wide.far_is

pub test_below : (coordinate weight far place : ℤ) → AreWide coordinate weight far place → kept w128 far ≡ extent *ℤ weight
test_below coordinate weight far place wide = kept_128 far (2 ^ 126) wide.far_small (lit≤ tt) ∙ wide.far_is

pub test_place : (coordinate weight far place : ℤ) → AreWide coordinate weight far place → kept w128 place ≡ coordinate
test_place coordinate weight far place wide = kept_128 place (2 ^ 63) wide.place_small (lit≤ tt) ∙ wide.place_is

-- ---- tests

is_less : (a b : ℤ) → lt_z a b ≡ true → a <ℤ b
is_less a b t = record { lt = subst T (sym t) tt }

holds : (v : Bool) → T v → v ≡ true
holds true t = refl
holds false t = absurd t

is_not_less : (a b : ℤ) → lt_z a b ≡ false → a <ℤ b → ⊥
is_not_less a b t h = subst T t h.lt

-- the coordinate is above one face
pub between_from : (coordinate weight : ℤ) → lt_z (neg_ℤ (extent *ℤ weight)) coordinate ≡ true → IsTrue (lt_z coordinate (extent *ℤ weight)) ↔ IsWithinExtent coordinate weight
between_from coordinate weight above =
    ((λ t. record { above = is_less _ coordinate above; below = is_less coordinate _ t }), (λ i. holds _ i.below.lt))

-- it is not
pub not_between : (coordinate weight : ℤ) → lt_z (neg_ℤ (extent *ℤ weight)) coordinate ≡ false → IsTrue (lt_z (neg_ℤ (extent *ℤ weight)) coordinate) ↔ IsWithinExtent coordinate weight
not_between coordinate weight not_above =
    ((λ t. absurd (is_not_less _ coordinate not_above (is_less _ coordinate t))), (λ i. absurd (is_not_less _ coordinate not_above i.above)))

-- ---- a point, of which x and y are between the faces where the first tests hold

module _ (p : Point) (x y z w : ℤ) (same : record { x = x; y = y; z = z; w = w } ≡ p) (fx : FitsSigned w64 x) (fy : FitsSigned w64 y) (fz : FitsSigned w64 z) (fw : FitsSigned w64 w) (positive : pos 0 <ℤ w) where
  within_kept : (n : ℤ) → FitsSigned w64 n → IsWithinExtent (kept w64 n) (kept w64 w) → IsWithinExtent n w
  within_kept n f h = rw (to_z-of_z w64 n f, to_z-of_z w64 w fw) at h

  kept_within : (n : ℤ) → FitsSigned w64 n → IsWithinExtent n w → IsWithinExtent (kept w64 n) (kept w64 w)
  kept_within n f h = rw (to_z-of_z w64 n f, to_z-of_z w64 w fw) h

  pub in_cube_from :
      (c : Bool) → IsWithinExtent (kept w64 x) (kept w64 w) → IsWithinExtent (kept w64 y) (kept w64 w) → IsTrue c ↔ IsWithinExtent (kept w64 z) (kept w64 w) → IsTrue c ↔ IsInCube p
  in_cube_from c in_x in_y in_z =
      subst (λ (q : Point). IsTrue c ↔ IsInCube q) same
      ((λ t. record { weight = positive; x = within_kept x fx in_x; y = within_kept y fy in_y; z = within_kept z fz (in_z.0 t) }), (λ i. in_z.1 (kept_within z fz i.z)))
