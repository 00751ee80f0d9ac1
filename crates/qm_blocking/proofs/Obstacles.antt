-- The obstacles among some brushes: there is one list of them, and those of a first part of the brushes are a first part of
-- those of all.
use Rattle.std.proofs.Common.{◌≡◌, List, [], ◌∷◌, ◌++◌, refl, ap}
use Rattle.qm_mapfile.specs.declared.entity.Brush.{Brush}
use Rattle.qm_blocking.specs.Blocking.{IsObstacle, AreObstacles, none, counted, left_out}

-- ---- one list

pub one_obstacles : (brushes those others : List Brush) → AreObstacles brushes those → AreObstacles brushes others → those ≡ others
one_obstacles [] those others none none = refl
one_obstacles (brush ∷ brushes) (first ∷ those) (other ∷ others) (counted obstacle are) (counted its_own those_are) = ap (λ (rest : List Brush). brush ∷ rest) (one_obstacles brushes those others are those_are)
one_obstacles (brush ∷ brushes) those others (counted obstacle are) (left_out not those_are) = absurd (not obstacle)
one_obstacles (brush ∷ brushes) those others (left_out not are) (counted obstacle those_are) = absurd (not obstacle)
one_obstacles (brush ∷ brushes) those others (left_out not are) (left_out its_not those_are) = one_obstacles brushes those others are those_are

-- ---- one more brush

pub one_more_obstacle : (brushes those : List Brush) (brush : Brush) → AreObstacles brushes those → IsObstacle brush → AreObstacles (brushes ++ brush ∷ []) (those ++ brush ∷ [])
one_more_obstacle [] those brush none obstacle = counted obstacle none
one_more_obstacle (first ∷ brushes) (it ∷ those) brush (counted its_own are) obstacle = counted its_own (one_more_obstacle brushes those brush are obstacle)
one_more_obstacle (first ∷ brushes) those brush (left_out not are) obstacle = left_out not (one_more_obstacle brushes those brush are obstacle)

pub one_more_left_out : (brushes those : List Brush) (brush : Brush) → AreObstacles brushes those → (IsObstacle brush → ⊥) → AreObstacles (brushes ++ brush ∷ []) those
one_more_left_out [] those brush none not = left_out not none
one_more_left_out (first ∷ brushes) (it ∷ those) brush (counted obstacle are) not = counted obstacle (one_more_left_out brushes those brush are not)
one_more_left_out (first ∷ brushes) those brush (left_out its_not are) not = left_out its_not (one_more_left_out brushes those brush are not)

-- ---- a first part

pub record HasFirstOnes (brushes more those : List Brush) : Type 0 where
  pub first : List Brush
  pub rest : List Brush
  pub are_first : AreObstacles brushes first
  pub are_rest : AreObstacles more rest
  pub parts : those ≡ first ++ rest

pub first_ones : (brushes more those : List Brush) → AreObstacles (brushes ++ more) those → HasFirstOnes brushes more those
first_ones [] more those are = record { first = []; rest = those; are_first = none; are_rest = are; parts = refl }
first_ones (brush ∷ brushes) more (it ∷ those) (counted obstacle are) =
    let inner = first_ones brushes more those are in
    record {
      first = brush ∷ inner.first;
      rest = inner.rest;
      are_first = counted obstacle inner.are_first;
      are_rest = inner.are_rest;
      parts = ap (λ (rest : List Brush). brush ∷ rest) inner.parts;
    }
first_ones (brush ∷ brushes) more those (left_out not are) =
    let inner = first_ones brushes more those are in
    record { first = inner.first; rest = inner.rest; are_first = left_out not inner.are_first; are_rest = inner.are_rest; parts = inner.parts }
