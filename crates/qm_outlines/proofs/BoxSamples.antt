-- Worked row: the box of a brush that is not bounded, all that is below z = 0. It reaches the corners of the cube, on which no face
-- of the brush has a corner.
use Rattle.std.proofs.Common.{◌≡◌, pos, neg_ℤ, ℤ, [], ◌∷◌, sym, subst, arith, ⊎_elim}
use Rattle.std.proofs.lemmas.Int.{ints}
use Rattle.std.proofs.lemmas.List.Elements.{All-from_recursion, All-head}
use Rattle.qm_lists.proofs.Elements.{Contains-nil, Contains-first, Contains-cons_cases}
use Rattle.qm_numbers.proofs.IntegerProducts.{linear, neg-*ℤ, *ℤ_one, one_*ℤ, zero_*ℤ}
use Rattle.qm_space.specs.Bounds.{extent}
use Rattle.qm_space.specs.Point.{Point}
use Rattle.qm_space.specs.Plane.{Plane, plane_of, value, IsBehind, IsNotInFront}
use Rattle.qm_space.specs.Cuboid.{Cuboid, IsInCuboid}
use Rattle.qm_contents.specs.declared.contents.Contents.TheVariants as contents
use Rattle.qm_solids.specs.Solid.{Solid}
use Rattle.qm_solids.specs.Holding.{IsFull, Holds}
use Rattle.qm_solids.proofs.Insides.{inside_of_behind}
use Rattle.qm_outlines.specs.HeldPoints.{IsHeldPoint, IsModelBox}

abbrev floor : Plane
floor = plane_of (pos 0) (pos 0) (pos 1) (pos 0)

abbrev below : Solid
below = record { contents = contents.Solid; outward = floor ∷ [] }

abbrev box : Cuboid
box = record {
  x = record { low = neg_ℤ extent; high = extent };
  y = record { low = neg_ℤ extent; high = extent };
  z = record { low = neg_ℤ extent; high = pos 0 };
}

abbrev at : ℤ → ℤ → ℤ → Point
at x y z = record { x = x; y = y; z = z; w = pos 1 }

-- it is full
full : IsFull below
unfolding value
full = record {
  within = at (pos 0) (pos 0) (neg_ℤ (pos 1));
  in_cube = record {
    weight = omega (arith, ints);
    x = record { above = omega (arith, ints); below = omega (arith, ints) };
    y = record { above = omega (arith, ints); below = omega (arith, ints) };
    z = record { above = omega (arith, ints); below = omega (arith, ints) };
  };
  inside = inside_of_behind (floor ∷ []) (at (pos 0) (pos 0) (neg_ℤ (pos 1))) (All-from_recursion (λ h. IsBehind h (at (pos 0) (pos 0) (neg_ℤ (pos 1)))) (floor ∷ []) (omega (arith, ints), tt));
}

height : (x : Point) → value floor x ≡ x.z
unfolding value
height x = omega (arith, linear, zero_*ℤ x.x, zero_*ℤ x.y, one_*ℤ x.z, zero_*ℤ x.w)

-- two opposite corners of the box are held
low_corner : IsHeldPoint (below ∷ []) (at (neg_ℤ extent) (neg_ℤ extent) (neg_ℤ extent))
unfolding value
low_corner = record {
  in_cube = record {
    weight = omega (arith, ints);
    x = record { above = omega (arith, ints); below = omega (arith, ints) };
    y = record { above = omega (arith, ints); below = omega (arith, ints) };
    z = record { above = omega (arith, ints); below = omega (arith, ints) };
  };
  solid = below;
  listed = Contains-first below [];
  holds = record { full = full; not_in_front = All-from_recursion (λ h. IsNotInFront h (at (neg_ℤ extent) (neg_ℤ extent) (neg_ℤ extent))) (floor ∷ []) (omega (arith, ints), tt) };
}

high_corner : IsHeldPoint (below ∷ []) (at extent extent (pos 0))
unfolding value
high_corner = record {
  in_cube = record {
    weight = omega (arith, ints);
    x = record { above = omega (arith, ints); below = omega (arith, ints) };
    y = record { above = omega (arith, ints); below = omega (arith, ints) };
    z = record { above = omega (arith, ints); below = omega (arith, ints) };
  };
  solid = below;
  listed = Contains-first below [];
  holds = record { full = full; not_in_front = All-from_recursion (λ h. IsNotInFront h (at extent extent (pos 0))) (floor ∷ []) (omega (arith, ints), tt) };
}

held_in_box : (x : Point) → IsHeldPoint (below ∷ []) x → IsInCuboid box x
held_in_box x held =
    let holds : Holds below x = ⊎_elim (λ same. subst (λ (s : Solid). Holds s x) (sym same) held.holds) (λ other. absurd (Contains-nil held.solid other)) (Contains-cons_cases below held.solid [] held.listed) in
    let not_above = All-head (λ h. IsNotInFront h x) floor [] holds.not_in_front in
    let e = height x in
    let n = neg-*ℤ extent x.w in
    let k = zero_*ℤ x.w in
    let xa = held.in_cube.x.above in let xb = held.in_cube.x.below in let ya = held.in_cube.y.above in let yb = held.in_cube.y.below in let za = held.in_cube.z.above in
    record {
      x = record { above = omega (arith, linear); below = omega (arith, linear) };
      y = record { above = omega (arith, linear); below = omega (arith, linear) };
      z = record { above = omega (arith, linear); below = omega (arith, linear) };
    }

pub unbounded_row : IsModelBox (below ∷ []) box
unbounded_row = record {
  has_all = held_in_box;
  least = λ other has.
      let low = has (at (neg_ℤ extent) (neg_ℤ extent) (neg_ℤ extent)) low_corner in
      let high = has (at extent extent (pos 0)) high_corner in
      let a = low.x.above in let b = low.y.above in let c = low.z.above in let d = high.x.below in let e = high.y.below in let f = high.z.below in
      let ka = *ℤ_one other.x.low in let kb = *ℤ_one other.y.low in let kc = *ℤ_one other.z.low in let kd = *ℤ_one other.x.high in let ke = *ℤ_one other.y.high in let kf = *ℤ_one other.z.high in
      record {
        x = record { low = omega (arith, linear); high = omega (arith, linear) };
        y = record { low = omega (arith, linear); high = omega (arith, linear) };
        z = record { low = omega (arith, linear); high = omega (arith, linear) };
      };
}
