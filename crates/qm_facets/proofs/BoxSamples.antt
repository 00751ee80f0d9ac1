-- Worked row: the least box with whole corners round the point (1/2, -3/2, 2).
use Rattle.std.proofs.Common.{◌≡◌, pos, neg_ℤ, refl, sym, subst, arith}
use Rattle.std.proofs.lemmas.Int.{ints}
use Rattle.qm_numbers.proofs.IntegerProducts.{linear, *ℤ-+ℤ, *ℤ_one}
use Rattle.qm_space.specs.Point.{Point}
use Rattle.qm_space.specs.Cuboid.{Cuboid, IsInCuboid}
use Rattle.qm_facets.specs.Extent.{IsLeastCuboid}

abbrev point : Point
point = record { x = pos 1; y = neg_ℤ (pos 3); z = pos 4; w = pos 2 }

-- it grows outward to whole numbers, and not at all where the coordinate is one
abbrev box : Cuboid
box = record {
  x = record { low = pos 0; high = pos 1 };
  y = record { low = neg_ℤ (pos 2); high = neg_ℤ (pos 1) };
  z = record { low = pos 2; high = pos 2 };
}

has_point : IsInCuboid box point
has_point = record {
  x = record { above = omega (arith, ints); below = omega (arith, ints) };
  y = record { above = omega (arith, ints); below = omega (arith, ints) };
  z = record { above = omega (arith, ints); below = omega (arith, ints) };
}

pub least_row : IsLeastCuboid (λ x. x ≡ point) box
least_row = record {
  has_all = λ x same. subst (IsInCuboid box) (sym same) has_point;
  least = λ other has.
      let is = has point refl in
      let xa = is.x.above in let xb = is.x.below in let ya = is.y.above in let yb = is.y.below in let za = is.z.above in let zb = is.z.below in
      let a = *ℤ-+ℤ other.x.low (pos 1) (pos 1) in let b = *ℤ-+ℤ other.x.high (pos 1) (pos 1) in
      let c = *ℤ-+ℤ other.y.low (pos 1) (pos 1) in let d = *ℤ-+ℤ other.y.high (pos 1) (pos 1) in
      let e = *ℤ-+ℤ other.z.low (pos 1) (pos 1) in let f = *ℤ-+ℤ other.z.high (pos 1) (pos 1) in
      let ka = *ℤ_one other.x.low in let kb = *ℤ_one other.x.high in let kc = *ℤ_one other.y.low in let kd = *ℤ_one other.y.high in let ke = *ℤ_one other.z.low in let kf = *ℤ_one other.z.high in
      record {
        x = record { low = omega (arith, linear, ints); high = omega (arith, linear, ints) };
        y = record { low = omega (arith, linear, ints); high = omega (arith, linear, ints) };
        z = record { low = omega (arith, linear, ints); high = omega (arith, linear, ints) };
      };
}
