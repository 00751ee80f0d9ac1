-- The points of a winding: multiples of a point are one place, and with two points all between them belong to it.
use Rattle.std.proofs.Common.{ℤ, pos, ◌*ℤ◌, ◌<ℤ◌, ◌↔◌, ap, sym, ◌∙◌, arith}
use Rattle.std.proofs.lemmas.List.Elements.{All-from_get_or}
use Rattle.qm_space.specs.Point.{Point, point_sum, point_times}
use Rattle.qm_space.specs.Plane.{value, IsInFront}
use Rattle.qm_numbers.proofs.IntegerProducts.{linear, *ℤ_zero}
use Rattle.qm_numbers.proofs.Signs.{product_positive, positive_beside, zero_beside_positive}
use Rattle.qm_space.proofs.Planes.{value_sum, value_times}
use Rattle.qm_convex.specs.Winding.{Winding, edge_at, IsInRegion}

pub region_times : (v : Winding) (k : ℤ) (p : Point) → pos 0 <ℤ k → IsInRegion v (point_times k p) ↔ IsInRegion v p
region_times v k p h = (back, there)
  where
    there : IsInRegion v p → IsInRegion v (point_times k p)
    there r = record {
      weight = product_positive k p.w h r.weight;
      on = value_times v.plane k p ∙ ap (λ x. k *ℤ x) r.on ∙ *ℤ_zero k;
      inside = All-from_get_or (λ e. IsInFront e (point_times k p)) v.edges v.plane (λ i l. let e = value_times (edge_at v i) k p in let m = product_positive k (value (edge_at v i) p) h (r.inside i v.plane l) in omega (arith, linear));
    }

    back : IsInRegion v (point_times k p) → IsInRegion v p
    back r = record {
      weight = positive_beside k p.w h r.weight;
      on = zero_beside_positive k (value v.plane p) h (sym (value_times v.plane k p) ∙ r.on);
      inside = All-from_get_or (λ e. IsInFront e p) v.edges v.plane (λ i l. positive_beside k (value (edge_at v i) p) h (let e = value_times (edge_at v i) k p in let m = r.inside i v.plane l in omega (arith, linear)));
    }

pub region_sum : (v : Winding) (p q : Point) → IsInRegion v p → IsInRegion v q → IsInRegion v (point_sum p q)
region_sum v p q r s = record {
  weight = let a = r.weight in let b = s.weight in omega (arith, linear);
  on = let e = value_sum v.plane p q in let a = r.on in let b = s.on in omega (arith, linear);
  inside = All-from_get_or (λ e. IsInFront e (point_sum p q)) v.edges v.plane (λ i l. let e = value_sum (edge_at v i) p q in let a = r.inside i v.plane l in let b = s.inside i v.plane l in omega (arith, linear));
}
