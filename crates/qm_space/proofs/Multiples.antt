-- A positive multiple of a plane has the plane's points on the same sides.
use Rattle.std.proofs.Common.{◌≡◌, pos, ◌*ℤ◌, ◌≤ℤ◌, ◌<ℤ◌, ap, ◌∙◌, sym, ◌↔◌, subst, arith}
use Rattle.qm_space.specs.Point.{Point}
use Rattle.qm_space.specs.Plane.{Plane, value, IsBehind, IsNotInFront}
use Rattle.qm_space.specs.Multiple.{IsPositiveMultiple}
use Rattle.qm_numbers.proofs.Signs.{positive_times_negative, negative_beside, product_not_positive, not_positive_beside}
use Rattle.qm_numbers.proofs.IntegerProducts.{linear}
use Rattle.qm_space.proofs.Planes.{value_scaled}

pub multiple_value : (h g : Plane) (x : Point) (m : IsPositiveMultiple h g) → value h x ≡ m.factor *ℤ value g x
multiple_value h g x m = ap (λ (p : Plane). value p x) m.multiple ∙ value_scaled m.factor g x

pub multiple_behind : (h g : Plane) (x : Point) → IsPositiveMultiple h g → IsBehind h x ↔ IsBehind g x
multiple_behind h g x m =
    let e = multiple_value h g x m in (
      (λ behind. negative_beside m.factor (value g x) m.positive (subst (λ v. v <ℤ pos 0) e behind)),
      (λ behind. subst (λ v. v <ℤ pos 0) (sym e) (positive_times_negative m.factor (value g x) m.positive behind)),
    )

pub multiple_not_in_front : (h g : Plane) (x : Point) → IsPositiveMultiple h g → IsNotInFront h x ↔ IsNotInFront g x
multiple_not_in_front h g x m =
    let e = multiple_value h g x m in
    let least : pos 0 ≤ℤ m.factor = let p = m.positive in omega (arith, linear) in (
      (λ not. not_positive_beside m.factor (value g x) m.positive (subst (λ v. v ≤ℤ pos 0) e not)),
      (λ not. subst (λ v. v ≤ℤ pos 0) (sym e) (product_not_positive m.factor (value g x) least not)),
    )
