-- Whole points near a point: the nearest is one alone, those around it are at most eight; they stay in the closed cube, and
-- are the same for all ways in which a place is written.
use Rattle.std.proofs.Common.{◌≡◌, ℕ, ◌*◌, ◌≤◌, ℤ, pos, ◌*ℤ◌, ◌<ℤ◌, List, refl, ap, sym, subst, ◌∙◌, ◌↔◌, arith, unsigned_abs, ◌⊎◌, inl, inr, ⊎_elim}
use Rattle.std.proofs.lemmas.Int.{ints}
use Rattle.std.proofs.Math.IntN.{*ℤ_comm}
use Rattle.qm_numbers.specs.Rounding.{IsRoundedDown, IsRoundedUp, IsNearest}
use Rattle.qm_separators.proofs.Comparisons.{one_floor}
use Rattle.qm_numbers.proofs.Roundings.{down_small, up_small, nearest_small}
use Rattle.qm_space.specs.Bounds.{world_extent}
use Rattle.qm_space.specs.Point.{Point, whole_point, IsSamePlace, IsCoordinate, IsWholePoint}
use Rattle.qm_space.specs.Cube.{IsUpToExtent, IsInClosedCube}
use Rattle.qm_space.proofs.Planes.{same_point}
use Rattle.qm_space.specs.Coordinates.{AreCoordinatesBy}
use Rattle.qm_separators.specs.WholePoints.{IsRoundedEitherWay, IsWholeBy, IsNearestPoint, IsAround}
use Rattle.qm_separators.proofs.Roundings.{one_up, one_nearest, down, up, nearest, either_too, nearest_too}
use Rattle.qm_separators.specs.inner.Outline.{IsMixOf}

-- ---- one alone

pub nearest_alone : (p m n : Point) → pos 0 <ℤ p.w → IsNearestPoint p m → IsNearestPoint p n → m ≡ n
nearest_alone p m n h a b = same_point m n (one_nearest p.x p.w m.x n.x h a.x b.x) (one_nearest p.y p.w m.y n.y h a.y b.y) (one_nearest p.z p.w m.z n.z h a.z b.z) (a.weight ∙ sym b.weight)

-- ---- there is one

pub nearest_point : (p : Point) → pos 0 <ℤ p.w → (n : Point) × IsNearestPoint p n
nearest_point p h =
    let x = nearest p.x p.w h in let y = nearest p.y p.w h in let z = nearest p.z p.w h in
    (record { x = x.0; y = y.0; z = z.0; w = pos 1 }, record { x = x.1; y = y.1; z = z.1; weight = refl })

-- ---- one place, one rounding

module _ (p q n : Point) (p_weight : pos 0 <ℤ p.w) (q_weight : pos 0 <ℤ q.w) (same : IsSamePlace p q) where
  crossed : (a b : ℤ) → q.w *ℤ a ≡ p.w *ℤ b → a *ℤ q.w ≡ b *ℤ p.w
  crossed a b e = *ℤ_comm a q.w ∙ e ∙ *ℤ_comm p.w b

  module _ (Rule : ℤ → ℤ → ℤ → Type 0) (too : (o u p v q : ℤ) → pos 0 <ℤ u → pos 0 <ℤ v → o *ℤ v ≡ p *ℤ u → Rule o u q → Rule p v q) where
    by_rule_too : IsWholeBy Rule p n → IsWholeBy Rule q n
    by_rule_too is = record {
      x = too p.x p.w q.x q.w n.x p_weight q_weight (crossed p.x q.x (ap (λ (r : Point). r.x) same)) is.x;
      y = too p.y p.w q.y q.w n.y p_weight q_weight (crossed p.y q.y (ap (λ (r : Point). r.y) same)) is.y;
      z = too p.z p.w q.z q.w n.z p_weight q_weight (crossed p.z q.z (ap (λ (r : Point). r.z) same)) is.z;
      weight = is.weight;
    }

  pub nearest_of_place : IsNearestPoint p n → IsNearestPoint q n
  nearest_of_place = by_rule_too IsNearest nearest_too

  pub around_of_place : IsAround p n → IsAround q n
  around_of_place = by_rule_too IsRoundedEitherWay either_too

-- ---- in the closed cube

up_to_extent : (c w : ℤ) → pos 0 <ℤ w → IsUpToExtent c w → unsigned_abs c ≤ world_extent * unsigned_abs w
up_to_extent c w h is = let a = is.above in let b = is.below in omega (arith, ints)

coordinate : (q : ℤ) → unsigned_abs q ≤ world_extent → IsCoordinate q
coordinate q l = record { low = omega (arith, ints); high = omega (arith, ints) }

module _ (Rule : ℤ → ℤ → ℤ → Type 0) (small : (a b q : ℤ) (n : ℕ) → pos 0 <ℤ b → unsigned_abs a ≤ n * unsigned_abs b → Rule a b q → unsigned_abs q ≤ n) where
  whole_in_cube : (p n : Point) → IsInClosedCube p → IsWholeBy Rule p n → IsWholePoint n
  whole_in_cube p n c is = record {
    x = coordinate n.x (small p.x p.w n.x world_extent c.weight (up_to_extent p.x p.w c.weight c.x) is.x);
    y = coordinate n.y (small p.y p.w n.y world_extent c.weight (up_to_extent p.y p.w c.weight c.y) is.y);
    z = coordinate n.z (small p.z p.w n.z world_extent c.weight (up_to_extent p.z p.w c.weight c.z) is.z);
    weight = is.weight;
  }

pub nearest_in_cube : (p n : Point) → IsInClosedCube p → IsNearestPoint p n → IsWholePoint n
nearest_in_cube = whole_in_cube IsNearest nearest_small

either_small : (a b q : ℤ) (n : ℕ) → pos 0 <ℤ b → unsigned_abs a ≤ n * unsigned_abs b → IsRoundedEitherWay a b q → unsigned_abs q ≤ n
either_small a b q n h l r = ⊎_elim (down_small a b q n h l) (up_small a b q n h l) r

pub around_in_cube : (p n : Point) → IsInClosedCube p → IsAround p n → IsWholePoint n
around_in_cube = whole_in_cube IsRoundedEitherWay either_small

-- ---- as code makes them

-- the point of three whole numbers
pub whole_by_coordinates : (Rule : ℤ → ℤ → ℤ → Type 0) (p : Point) (numbers : List ℤ) → AreCoordinatesBy Rule p numbers → IsWholeBy Rule p (whole_point numbers)
whole_by_coordinates Rule p numbers are = record { x = are.of_x; y = are.of_y; z = are.of_z; weight = refl }

-- the whole points around a point are those with coordinates of the one below and the one above
pub around_is_mix : (p below above at : Point) → pos 0 <ℤ p.w → IsWholeBy IsRoundedDown p below → IsWholeBy IsRoundedUp p above → IsAround p at ↔ IsMixOf below above at
around_is_mix p below above at h low high = (
  (λ is. record { x = mixed p.x p.w below.x above.x at.x h low.x high.x is.x; y = mixed p.y p.w below.y above.y at.y h low.y high.y is.y; z = mixed p.z p.w below.z above.z at.z h low.z high.z is.z; weight = is.weight }),
  (λ mix. record { x = rounded p.x p.w below.x above.x at.x low.x high.x mix.x; y = rounded p.y p.w below.y above.y at.y low.y high.y mix.y; z = rounded p.z p.w below.z above.z at.z low.z high.z mix.z; weight = mix.weight }),
)
  where
    mixed : (o u d e q : ℤ) → pos 0 <ℤ u → IsRoundedDown o u d → IsRoundedUp o u e → IsRoundedEitherWay o u q → (q ≡ d) ⊎ (q ≡ e)
    mixed o u d e q h down up either = ⊎_elim (λ r. inl (one_floor o u q d h r down)) (λ r. inr (one_up o u q e h r up)) either

    rounded : (o u d e q : ℤ) → IsRoundedDown o u d → IsRoundedUp o u e → (q ≡ d) ⊎ (q ≡ e) → IsRoundedEitherWay o u q
    rounded o u d e q down up either = ⊎_elim (λ same. inl (subst (IsRoundedDown o u) (sym same) down)) (λ same. inr (subst (IsRoundedUp o u) (sym same) up)) either
