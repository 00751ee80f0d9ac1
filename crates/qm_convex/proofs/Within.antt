-- Windings within a cuboid.
use Rattle.std.proofs.Common.{◌≡◌, pos, ◌<ℤ◌, ◌≤ℤ◌, ap, sym, ◌∙◌, arith}
use Rattle.std.proofs.Math.IntN.{*ℤ_comm}
use Rattle.qm_numbers.proofs.IntegerProducts.{linear}
use Rattle.qm_numbers.proofs.Signs.{product_positive, product_not_negative, product_not_positive, negative_times_positive}
use Rattle.qm_space.specs.Point.{Point}
use Rattle.qm_space.specs.Plane.{Plane, value, flipped}
use Rattle.qm_space.specs.Cuboid.{Cuboid, whole_cuboid, least_value, greatest_value, IsTightened, IsTightenedOn}
use Rattle.qm_space.proofs.Planes.{value_flipped}
use Rattle.qm_space.proofs.Cuboids.{least_value_bound, greatest_value_bound, closed_cube_in_whole}
use Rattle.qm_convex.specs.Winding.{Winding, IsInRegion}
use Rattle.qm_convex.specs.Sides.{HasNoneInFront, IsWhollyInFront}
use Rattle.qm_convex.specs.Cut.{IsPartInFront}
use Rattle.qm_convex.specs.World.{IsInWorld, LiesWithin}

-- ---- sides, by the least and the greatest value

module _ (v : Winding) (c : Cuboid) (g : Plane) (w : LiesWithin v c) where
  pub front_by_least : pos 0 <ℤ least_value g c → IsWhollyInFront v g
  front_by_least h p r = let b = least_value_bound g c p (w p r) in let m = product_positive (least_value g c) p.w h r.weight in omega (arith, linear)

  pub none_behind_by_least : pos 0 ≤ℤ least_value g c → HasNoneInFront v (flipped g)
  none_behind_by_least h p r =
      let b = least_value_bound g c p (w p r) in
      let k = r.weight in
      let m = product_not_negative (least_value g c) p.w h (omega (arith, linear)) in
      let e = value_flipped g p in
      omega (arith, linear)

  pub back_by_greatest : greatest_value g c <ℤ pos 0 → IsWhollyInFront v (flipped g)
  back_by_greatest h p r =
      let b = greatest_value_bound g c p (w p r) in
      let m = negative_times_positive (greatest_value g c) p.w h r.weight in
      let e = value_flipped g p in
      omega (arith, linear)

  pub none_in_front_by_greatest : greatest_value g c ≤ℤ pos 0 → HasNoneInFront v g
  none_in_front_by_greatest h p r =
      let b = greatest_value_bound g c p (w p r) in
      let k = r.weight in
      let m = product_not_positive p.w (greatest_value g c) (omega (arith, linear)) h in
      let e = *ℤ_comm p.w (greatest_value g c) in
      omega (arith, linear)

-- ---- cuboids of windings

pub world_within : (v : Winding) → IsInWorld v → LiesWithin v whole_cuboid
world_within v i p r = closed_cube_in_whole p (i.inside p r)

weight_not_negative : (v : Winding) (p : Point) → IsInRegion v p → pos 0 ≤ℤ p.w
weight_not_negative v p r = let k = r.weight in omega (arith, linear)

-- the part in front of a plane lies within what is left of the cuboid there
pub part_within : (w v : Winding) (g : Plane) (c t : Cuboid) → LiesWithin v c → IsPartInFront w v g → IsTightened t c g → LiesWithin w t
part_within w v g c t l part k p r =
    let s = (part.points p).0 r in
    k p (weight_not_negative w p r) (l p s.0) (let f = s.1 in omega (arith, linear))

-- and a winding within what is left of it on its plane
pub own_within : (v : Winding) (h : Plane) (c t : Cuboid) → LiesWithin v c → v.plane ≡ h → IsTightenedOn t c h → LiesWithin v t
own_within v h c t l e k p r = k p (weight_not_negative v p r) (l p r) (ap (λ (g : Plane). value g p) (sym e) ∙ r.on)
