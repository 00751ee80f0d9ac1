-- A solid with two opposed planes is flat.
use Rattle.std.proofs.Common.{ℤ, pos, ◌<ℤ◌, Contains, arith}
use Rattle.std.proofs.lemmas.Int.{ints}
use Rattle.std.proofs.lemmas.List.Elements.{All-contains}
use Rattle.qm_space.specs.Point.{Point}
use Rattle.qm_space.specs.Plane.{Plane, value, IsBehind, scaled, flipped}
use Rattle.qm_space.specs.Multiple.{IsPositiveMultiple}
use Rattle.qm_space.proofs.Planes.{value_scaled, flipped_behind}
use Rattle.qm_space.proofs.Multiples.{multiple_behind}
use Rattle.qm_numbers.proofs.Signs.{positive_times_negative}
use Rattle.qm_solids.specs.Solid.{Solid}
use Rattle.qm_solids.specs.Holding.{IsFull}
use Rattle.qm_solids.proofs.Insides.{behind_all}

-- two planes through the same points that are turned against each other: a positive multiple of the one is a positive
-- multiple of the other flipped
pub record AreOpposed (a b : Plane) : Type 0 where
  pub times : ℤ
  pub some : pos 0 <ℤ times
  pub multiple : IsPositiveMultiple (scaled times a) (flipped b)

-- a solid with two opposed planes
pub record HasOpposedPlanes (solid : Solid) : Type 0 where
  pub one : Plane
  pub other : Plane
  pub has_one : Contains solid.outward one
  pub has_other : Contains solid.outward other
  pub opposed : AreOpposed one other

-- no point is behind two opposed planes
pub behind_one_alone : (a b : Plane) (x : Point) → AreOpposed a b → IsBehind a x → IsBehind b x → ⊥
behind_one_alone a b x opposed behind_a behind_b =
    let its = value_scaled opposed.times a x in
    let below = positive_times_negative opposed.times (value a x) opposed.some behind_a in
    let flipped_below = (multiple_behind (scaled opposed.times a) (flipped b) x opposed.multiple).0 (omega (arith, ints, its, below)) in
    let ahead = (flipped_behind b x).0 flipped_below in
    absurd (omega (arith, ints, ahead, behind_b))

pub opposed_is_flat : (solid : Solid) → HasOpposedPlanes solid → IsFull solid → ⊥
opposed_is_flat solid has full =
    let behind = behind_all solid.outward full.within full.inside in
    behind_one_alone has.one has.other full.within has.opposed
    (All-contains (λ h. IsBehind h full.within) solid.outward has.one behind has.has_one)
    (All-contains (λ h. IsBehind h full.within) solid.outward has.other behind has.has_other)
