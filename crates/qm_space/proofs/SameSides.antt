-- Planes that have the same points on each side.
use Rattle.std.proofs.Common.{◌≡◌, pos, ◌*ℤ◌, refl, ap, sym, ◌∙◌, arith}
use Rattle.std.proofs.lemmas.Int.{ints}
use Rattle.qm_space.specs.Point.{Point}
use Rattle.qm_space.specs.Plane.{Plane, value, IsBehind, IsInFront}
use Rattle.qm_space.specs.Multiple.{HasSameSides}
use Rattle.qm_numbers.proofs.IntegerProducts.{linear}
use Rattle.qm_numbers.proofs.Signs.{product_positive, positive_times_negative, positive_beside, negative_beside}
use Rattle.qm_space.proofs.Planes.{value_scaled}

pub same_sides_itself : (h : Plane) → HasSameSides h h
same_sides_itself h = record { times = pos 1; factor = pos 1; some_times = omega (arith, ints); some_factor = omega (arith, ints); multiple = refl }

pub same_sides_back : (a h : Plane) → HasSameSides a h → HasSameSides h a
same_sides_back a h same = record { times = same.factor; factor = same.times; some_times = same.some_factor; some_factor = same.some_times; multiple = sym same.multiple }

-- what is in front of the one is in front of the other, and what is behind is behind
module _ (a h : Plane) (x : Point) (same : HasSameSides a h) where
  both_values : same.times *ℤ value a x ≡ same.factor *ℤ value h x
  both_values = sym (value_scaled same.times a x) ∙ ap (λ (p : Plane). value p x) same.multiple ∙ value_scaled same.factor h x

  pub same_in_front : IsInFront h x → IsInFront a x
  same_in_front front =
      let e = both_values in
      let p = product_positive same.factor (value h x) same.some_factor front in
      positive_beside same.times (value a x) same.some_times (omega (arith, linear))

  pub same_behind : IsBehind h x → IsBehind a x
  same_behind behind =
      let e = both_values in
      let p = positive_times_negative same.factor (value h x) same.some_factor behind in
      negative_beside same.times (value a x) same.some_times (omega (arith, linear))
