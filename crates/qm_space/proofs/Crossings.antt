-- Where a line through two points crosses a plane.
use Rattle.std.proofs.Common.{◌≡◌, ℤ, pos, neg_ℤ, ◌+ℤ◌, ◌*ℤ◌, ◌<ℤ◌, List, get_or, arith}
use Rattle.std.proofs.Math.IntN.{*ℤ_comm}
use Rattle.qm_space.specs.Point.{Point, point_sum, point_times}
use Rattle.qm_space.specs.Plane.{Plane, value, IsOn, IsInFront, IsNotInFront}
use Rattle.qm_space.specs.Cell.{IsInCell}
use Rattle.qm_numbers.proofs.IntegerProducts.{linear, neg-*ℤ}
use Rattle.qm_numbers.proofs.Signs.{product_positive, product_not_negative}
use Rattle.qm_space.proofs.Planes.{value_sum, value_times}

-- The step from the point c through the point p until the plane e is met: the point is e's value at c times p, less
-- e's value at p times c.
abbrev pub through : Plane → Point → Point → Point
through e c p = point_sum (point_times (value e c) p) (point_times (neg_ℤ (value e p)) c)

pub value_through : (g e : Plane) (c p : Point) → value g (through e c p) ≡ (value e c *ℤ value g p) +ℤ neg_ℤ (value e p *ℤ value g c)
value_through g e c p =
    let s = value_sum g (point_times (value e c) p) (point_times (neg_ℤ (value e p)) c) in
    let t = value_times g (value e c) p in
    let u = value_times g (neg_ℤ (value e p)) c in
    let w = neg-*ℤ (value e p) (value g c) in
    omega (arith, linear)

-- ---- from a point in front of a plane to one that is not

module _ (h : Plane) (c x : Point) (front : IsInFront h c) (not : IsNotInFront h x) where
  pub crossing_on : IsOn h (through h c x)
  crossing_on = let e = value_through h h c x in let k = *ℤ_comm (value h c) (value h x) in omega (arith, linear)

  -- what is positive at both is positive where one crosses
  both_positive : (a b : ℤ) → pos 0 <ℤ a → pos 0 <ℤ b → pos 0 <ℤ ((value h c *ℤ a) +ℤ (neg_ℤ (value h x) *ℤ b))
  both_positive a b more most =
      let m = product_positive (value h c) a front more in
      let n = product_not_negative (neg_ℤ (value h x)) b (omega (arith, linear)) (omega (arith, linear)) in
      omega (arith, linear)

  pub crossing_weight : pos 0 <ℤ c.w → pos 0 <ℤ x.w → pos 0 <ℤ (through h c x).w
  crossing_weight w v = both_positive x.w c.w v w

  pub crossing_in_front : (g : Plane) → IsInFront g c → IsInFront g x → IsInFront g (through h c x)
  crossing_in_front g f k =
      let m = both_positive (value g x) (value g c) k f in
      let e = value_through g h c x in
      let n = neg-*ℤ (value h x) (value g c) in
      omega (arith, linear)

  -- so a cell with both ends has the crossing
  pub crossing_in_cell : (cell : List Plane) → IsInCell cell c → IsInCell cell x → IsInCell cell (through h c x)
  crossing_in_cell cell f k place d there = crossing_in_front (get_or cell place d) (f place d there) (k place d there)
