-- A winding has all of a cuboid, by values.
use Rattle.std.proofs.Common.{pos, ◌≤ℤ◌, get_or, All, arith}
use Rattle.qm_numbers.proofs.IntegerProducts.{linear}
use Rattle.std.proofs.Math.IntN.{*ℤ_comm}
use Rattle.qm_numbers.proofs.Signs.{product_not_negative, product_not_positive}
use Rattle.qm_space.specs.Cuboid.{Cuboid, least_value, greatest_value}
use Rattle.qm_space.proofs.Cuboids.{least_value_bound, greatest_value_bound}
use Rattle.qm_convex.specs.Winding.{Winding}
use Rattle.qm_extents.specs.Filled.{HasAllOf}

module _ (v : Winding) (c : Cuboid) where
  pub all_by_values : pos 0 ≤ℤ least_value v.plane c → greatest_value v.plane c ≤ℤ pos 0 → All (λ h. pos 0 ≤ℤ least_value h c) v.edges → HasAllOf v c
  all_by_values least greatest edges = record {
    on = λ p weight there.
        let a = least_value_bound v.plane c p there in
        let b = greatest_value_bound v.plane c p there in
        let low = product_not_negative (least_value v.plane c) p.w least weight in
        let high = product_not_positive p.w (greatest_value v.plane c) weight greatest in
        let turned = *ℤ_comm p.w (greatest_value v.plane c) in
        omega (arith, linear);
    inside = λ p weight there i d below.
        let h = get_or v.edges i d in
        let a = least_value_bound h c p there in
        let low = product_not_negative (least_value h c) p.w (edges i d below) weight in
        omega (arith, linear);
  }
