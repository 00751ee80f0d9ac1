-- On which sides of a plane a winding has corners, by where it lies beside it.
use Rattle.std.proofs.Common.{◌≡◌, true, false, pos, ◌<ℤ◌, ◌≤ℤ◌, ◌↔◌, IsTrue, refl, arith}
use Rattle.std.proofs.lemmas.Int.{ints}
use Rattle.qm_space.specs.Plane.{Plane, flipped}
use Rattle.qm_space.specs.Cuboid.{Cuboid, least_value, greatest_value}
use Rattle.qm_space.proofs.Planes.{flipped_in_front}
use Rattle.qm_convex.specs.Winding.{Winding, corner_at, IsConvex}
use Rattle.qm_convex.specs.World.{LiesWithin}
use Rattle.qm_convex.specs.Sides.{HasNoneInFront, IsWhollyInFront, LiesIn, HasCornerInFront, HasCornerBehind}
use Rattle.qm_convex.proofs.Central.{middle, middle_in_region, some_in_front, some_behind}
use Rattle.qm_convex.proofs.Within.{front_by_least, none_in_front_by_greatest}
use Rattle.qm_wind.specs.Lying.{AreCornerSides}
use Rattle.qm_wind.specs.inner.Finding.{HasCornersAcross}

-- what is answered, and what is so
so : {P : Type 0} → P → IsTrue true ↔ P
so is = ((λ _. is), (λ _. refl))

not_so : {P : Type 0} → (P → ⊥) → IsTrue false ↔ P
not_so not = ((λ is. let never : false ≡ true = is in cc), (λ is. absurd (not is)))

-- a corner in front of the plane turned round is one behind it
pub behind_by_flipped : (v : Winding) (g : Plane) → HasCornerInFront v (flipped g) ↔ HasCornerBehind v g
behind_by_flipped v g = (
  (λ s. (s.0, s.1, (flipped_in_front g (corner_at v s.0)).0 s.2)),
  (λ s. (s.0, s.1, (flipped_in_front g (corner_at v s.0)).1 s.2)),
)

module _ (v : Winding) (g : Plane) (convex : IsConvex v) where
  pub front_in_front : IsWhollyInFront v g → HasCornerInFront v g
  front_in_front wholly = (some_in_front v g convex).0 (middle v, middle_in_region v convex, wholly (middle v) (middle_in_region v convex))

  pub none_in_front : HasNoneInFront v g → HasCornerInFront v g → ⊥
  none_in_front none corner = let some = (some_in_front v g convex).1 corner in let not = none some.0 some.1 in let front = some.2 in omega (arith, ints)

  none_behind_in_front : IsWhollyInFront v g → HasCornerBehind v g → ⊥
  none_behind_in_front wholly corner = let some = (some_behind v g convex).1 corner in let front = wholly some.0 some.1 in let behind = some.2 in omega (arith, ints)

  some_behind_at_back : IsWhollyInFront v (flipped g) → HasCornerBehind v g
  some_behind_at_back wholly = (some_behind v g convex).0 (middle v, middle_in_region v convex, (flipped_in_front g (middle v)).0 (wholly (middle v) (middle_in_region v convex)))

  none_in_front_at_back : IsWhollyInFront v (flipped g) → HasCornerInFront v g → ⊥
  none_in_front_at_back wholly corner =
      let some = (some_in_front v g convex).1 corner in
      let behind = (flipped_in_front g some.0).0 (wholly some.0 some.1) in
      let front = some.2 in
      omega (arith, ints)

  none_behind_on : LiesIn v g → HasCornerBehind v g → ⊥
  none_behind_on lies corner = let some = (some_behind v g convex).1 corner in let on = lies some.0 some.1 in let behind = some.2 in omega (arith, ints)

  none_in_front_on : LiesIn v g → HasCornerInFront v g → ⊥
  none_in_front_on lies corner = let some = (some_in_front v g convex).1 corner in let on = lies some.0 some.1 in let front = some.2 in omega (arith, ints)

  -- on which sides, by where it lies
  pub sides_in_front : IsWhollyInFront v g → AreCornerSides (record { in_front = true; behind = false }) v g
  sides_in_front wholly = record { in_front = so (front_in_front wholly); behind = not_so (none_behind_in_front wholly) }

  pub sides_at_back : IsWhollyInFront v (flipped g) → AreCornerSides (record { in_front = false; behind = true }) v g
  sides_at_back wholly = record { in_front = not_so (none_in_front_at_back wholly); behind = so (some_behind_at_back wholly) }

  pub sides_on : LiesIn v g → AreCornerSides (record { in_front = false; behind = false }) v g
  sides_on lies = record { in_front = not_so (none_in_front_on lies); behind = not_so (none_behind_on lies) }

  -- by the least and the greatest value in a cuboid
  module _ (c : Cuboid) (within : LiesWithin v c) where
    pub not_by_greatest : greatest_value g c ≤ℤ pos 0 → IsTrue false ↔ HasCornerInFront v g
    not_by_greatest at_most = not_so (none_in_front (none_in_front_by_greatest v c g within at_most))

    pub so_by_least : pos 0 <ℤ least_value g c → IsTrue true ↔ HasCornerInFront v g
    so_by_least more = so (front_in_front (front_by_least v c g within more))

pub sides_across : (v : Winding) (g : Plane) → HasCornersAcross v g → AreCornerSides (record { in_front = true; behind = true }) v g
sides_across v g across = record { in_front = so across.front; behind = so ((behind_by_flipped v g).0 across.back) }
