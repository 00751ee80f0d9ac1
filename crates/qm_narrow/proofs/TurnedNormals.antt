-- Normals of planes through an edge and around a corner: how they are turned, and between which distances corners lie by them.
use Rattle.std.proofs.Common.{◌≡◌, Bool, true, false, ℤ, pos, ◌+ℤ◌, ◌-ℤ◌, ◌*ℤ◌, ◌<ℤ◌, [], ◌∷◌, refl, ap, sym, subst, ◌∙◌, arith}
use Rattle.qm_numbers.proofs.IntegerProducts.{linear, one_*ℤ, *ℤ_one, *ℤ_zero, zero_*ℤ}
use Rattle.qm_numbers.proofs.Ring.{variable, number, ◌⊕◌, ◌⊖◌, ◌⊗◌, solved}
use Rattle.qm_numbers.specs.Rounding.{IsNearest}
use Rattle.qm_space.specs.Point.{Point, whole_point}
use Rattle.qm_space.specs.Coordinates.{AreCoordinatesBy}
use Rattle.qm_space.specs.Vector.{normal_of}
use Rattle.qm_space.specs.ThreePoints.{outward_plane}
use Rattle.qm_space.proofs.Planes.{same_point}
use Rattle.qm_geom.specs.Vectors.{direction_of, vector_between, dot}
use Rattle.qm_geom.specs.declared.vector.Vector.{Vector}
use Rattle.qm_narrow.specs.declared.edge.Edge.{Edge}
use Rattle.qm_narrow.specs.declared.turn.Turn.{Turn}
use Rattle.qm_narrow.specs.declared.reach.Reach.{Reach}
use Rattle.qm_narrow.specs.declared.spot.Spot.{Spot}
use Rattle.qm_narrow.specs.inner.Trace.{IsSpotOf}
use Rattle.qm_narrow.specs.inner.Turn.{IsWithin, HasSize, part_along, LiesBetween, IsThrough, IsTurned, IsTurnSlack, IsSpread, IsPointSlack, LiesAround, slack_where}
use Rattle.qm_narrow.proofs.Turns.{within_product, dot_within, turned_value, nearest_within, around_within, around_near, fixed_rest, fixed_around, fixed_around_rest, lies_by}

pub by_flag : {P : Type 0} (b : Bool) → (b ≡ true → P) → (b ≡ false → P) → P
by_flag true f g = f refl
by_flag false f g = g refl

-- ---- a normal that is turned

module _ (n k : Vector) (at from to : Point) (x y z : ℤ)
    (n_is : direction_of n ≡ normal_of (outward_plane (record { x = at.x +ℤ x; y = at.y +ℤ y; z = at.z +ℤ z; w = pos 1 }) from to))
    (k_is : direction_of k ≡ normal_of (outward_plane at from to)) where
  part : (a b d e f g h i : ℤ) → (((a +ℤ b) -ℤ f) *ℤ (g -ℤ h)) -ℤ (((d +ℤ e) -ℤ h) *ℤ (i -ℤ f)) ≡ (((a -ℤ f) *ℤ (g -ℤ h)) -ℤ ((d -ℤ h) *ℤ (i -ℤ f))) +ℤ ((b *ℤ (g -ℤ h)) -ℤ (e *ℤ (i -ℤ f)))
  part a b d e f g h i =
      let t = variable in
      solved (a ∷ b ∷ d ∷ e ∷ f ∷ g ∷ h ∷ i ∷ [])
      (((t 0 ⊕ t 1) ⊖ t 4) ⊗ (t 5 ⊖ t 6) ⊖ ((t 2 ⊕ t 3) ⊖ t 6) ⊗ (t 7 ⊖ t 4))
      (((t 0 ⊖ t 4) ⊗ (t 5 ⊖ t 6) ⊖ (t 2 ⊖ t 6) ⊗ (t 7 ⊖ t 4)) ⊕ (t 1 ⊗ (t 5 ⊖ t 6) ⊖ t 3 ⊗ (t 7 ⊖ t 4))) tt

  turned_x : n.x ≡ k.x +ℤ ((y *ℤ (to.z -ℤ from.z)) -ℤ (z *ℤ (to.y -ℤ from.y)))
  unfolding outward_plane
  turned_x = ap (λ (p : Point). p.x) n_is ∙ part at.y y at.z z from.y to.z from.z to.y ∙ ap (λ (p : Point). p.x +ℤ ((y *ℤ (to.z -ℤ from.z)) -ℤ (z *ℤ (to.y -ℤ from.y)))) (sym k_is)

  turned_y : n.y ≡ k.y +ℤ ((z *ℤ (to.x -ℤ from.x)) -ℤ (x *ℤ (to.z -ℤ from.z)))
  unfolding outward_plane
  turned_y = ap (λ (p : Point). p.y) n_is ∙ part at.z z at.x x from.z to.x from.x to.z ∙ ap (λ (p : Point). p.y +ℤ ((z *ℤ (to.x -ℤ from.x)) -ℤ (x *ℤ (to.z -ℤ from.z)))) (sym k_is)

  turned_z : n.z ≡ k.z +ℤ ((x *ℤ (to.y -ℤ from.y)) -ℤ (y *ℤ (to.x -ℤ from.x)))
  unfolding outward_plane
  turned_z = ap (λ (p : Point). p.z) n_is ∙ part at.x x at.y y from.x to.y from.y to.x ∙ ap (λ (p : Point). p.z +ℤ ((x *ℤ (to.y -ℤ from.y)) -ℤ (y *ℤ (to.x -ℤ from.x)))) (sym k_is)

  turned_within : (c b a d e f s l m : ℤ) → c ≡ b +ℤ ((a *ℤ d) -ℤ (e *ℤ f)) → IsWithin b s → IsWithin a (pos 1) → IsWithin d l → IsWithin e (pos 1) → IsWithin f m → IsWithin c (s +ℤ (l +ℤ m))
  turned_within c b a d e f s l m is of_b of_a of_d of_e of_f =
      let g = within_product a d (pos 1) l of_a of_d in let h = within_product e f (pos 1) m of_e of_f in
      let i = one_*ℤ l in let j = one_*ℤ m in
      let gl = g.low in let gh = g.high in let hl = h.low in let hh = h.high in let bl = of_b.low in let bh = of_b.high in
      record { low = omega (arith, linear); high = omega (arith, linear) }

  pub turned_size : (size length : ℤ) → HasSize k size → HasSize (vector_between from to) length → IsWithin x (pos 1) → IsWithin y (pos 1) → IsWithin z (pos 1) → HasSize n (size +ℤ (length +ℤ length))
  unfolding vector_between
  turned_size size length of_k of_d x_in y_in z_in = record {
    of_x = of_k.of_x +ℤ (of_d.of_z +ℤ of_d.of_y);
    of_y = of_k.of_y +ℤ (of_d.of_x +ℤ of_d.of_z);
    of_z = of_k.of_z +ℤ (of_d.of_y +ℤ of_d.of_x);
    x = turned_within n.x k.x y (to.z -ℤ from.z) z (to.y -ℤ from.y) of_k.of_x of_d.of_z of_d.of_y turned_x of_k.x y_in of_d.z z_in of_d.y;
    y = turned_within n.y k.y z (to.x -ℤ from.x) x (to.z -ℤ from.z) of_k.of_y of_d.of_x of_d.of_z turned_y of_k.y z_in of_d.x x_in of_d.z;
    z = turned_within n.z k.z x (to.y -ℤ from.y) y (to.x -ℤ from.x) of_k.of_z of_d.of_y of_d.of_x turned_z of_k.z x_in of_d.y y_in of_d.x;
    sum = let e = of_k.sum in let f = of_d.sum in omega (arith, linear);
  }

  untouched : (c b a d e f : ℤ) → c ≡ b +ℤ ((a *ℤ d) -ℤ (e *ℤ f)) → a ≡ pos 0 → e ≡ pos 0 → b ≡ c
  untouched c b a d e f is a_is e_is =
      let g = ap (λ (v : ℤ). v *ℤ d) a_is in let h = ap (λ (v : ℤ). v *ℤ f) e_is in let i = zero_*ℤ d in let j = zero_*ℤ f in omega (arith, linear)

  pub unturned_size : (size : ℤ) → HasSize k size → x ≡ pos 0 → y ≡ pos 0 → z ≡ pos 0 → HasSize n size
  unturned_size size of_k x_is y_is z_is = record {
    of_x = of_k.of_x;
    of_y = of_k.of_y;
    of_z = of_k.of_z;
    x = subst (λ (v : ℤ). IsWithin v of_k.of_x) (untouched n.x k.x y (to.z -ℤ from.z) z (to.y -ℤ from.y) turned_x y_is z_is) of_k.x;
    y = subst (λ (v : ℤ). IsWithin v of_k.of_y) (untouched n.y k.y z (to.x -ℤ from.x) x (to.z -ℤ from.z) turned_y z_is x_is) of_k.y;
    z = subst (λ (v : ℤ). IsWithin v of_k.of_z) (untouched n.z k.z x (to.y -ℤ from.y) y (to.x -ℤ from.x) turned_z x_is y_is) of_k.z;
    sum = of_k.sum;
  }

-- ---- the normals through an edge and around a corner

module _ (edge : Edge) (turn : Turn) (spot : Spot) (p : Point) (n : Vector) (is : IsSpotOf p spot) (through : IsThrough edge p n)
    (near : direction_of turn.normal ≡ normal_of (outward_plane (whole_point spot.nearest) (whole_point edge.from) (whole_point edge.to)))
    (of_edge : HasSize (vector_between (whole_point edge.from) (whole_point edge.to)) edge.length) (loose_is : turn.loose ≡ spot.loose) where
  abbrev q : Point
  q = whole_point spot.nearest

  at_is : through.at ≡ record { x = q.x +ℤ (through.at.x -ℤ q.x); y = q.y +ℤ (through.at.y -ℤ q.y); z = q.z +ℤ (through.at.z -ℤ q.z); w = pos 1 }
  at_is = same_point through.at (record { x = q.x +ℤ (through.at.x -ℤ q.x); y = q.y +ℤ (through.at.y -ℤ q.y); z = q.z +ℤ (through.at.z -ℤ q.z); w = pos 1 }) (omega (arith, linear)) (omega (arith, linear)) (omega (arith, linear)) through.around.weight

  n_is : direction_of n ≡ normal_of (outward_plane (record { x = q.x +ℤ (through.at.x -ℤ q.x); y = q.y +ℤ (through.at.y -ℤ q.y); z = q.z +ℤ (through.at.z -ℤ q.z); w = pos 1 }) (whole_point edge.from) (whole_point edge.to))
  n_is = subst (λ (a : Point). direction_of n ≡ normal_of (outward_plane a (whole_point edge.from) (whole_point edge.to))) at_is through.normal

  x_in : IsWithin (through.at.x -ℤ q.x) (pos 1)
  x_in = around_near p.x p.w q.x through.at.x through.weight is.nearest.of_x through.around.x

  y_in : IsWithin (through.at.y -ℤ q.y) (pos 1)
  y_in = around_near p.y p.w q.y through.at.y through.weight is.nearest.of_y through.around.y

  z_in : IsWithin (through.at.z -ℤ q.z) (pos 1)
  z_in = around_near p.z p.w q.z through.at.z through.weight is.nearest.of_z through.around.z

  none : turn.loose ≡ false → (through.at.x -ℤ q.x ≡ pos 0) × (through.at.y -ℤ q.y ≡ pos 0) × (through.at.z -ℤ q.z ≡ pos 0)
  none not =
      let f = is.fixed (sym loose_is ∙ not) in (
        fixed_around p.x p.w _ _ through.weight is.below.of_x is.above.of_x f.x q.x through.at.x is.nearest.of_x through.around.x,
        fixed_around p.y p.w _ _ through.weight is.below.of_y is.above.of_y f.y q.y through.at.y is.nearest.of_y through.around.y,
        fixed_around p.z p.w _ _ through.weight is.below.of_z is.above.of_z f.z q.z through.at.z is.nearest.of_z through.around.z,
      )

  size_is : (spread : ℤ) → IsSpread edge turn spread → HasSize n spread
  size_is spread is_spread = by_flag turn.loose
      (λ yes. subst (HasSize n) (sym (is_spread.sum ∙ ap (λ (b : Bool). is_spread.of_normal +ℤ slack_where b (edge.length +ℤ edge.length)) yes))
      (turned_size n turn.normal q (whole_point edge.from) (whole_point edge.to) _ _ _ n_is near is_spread.of_normal edge.length is_spread.size of_edge x_in y_in z_in))
      (λ not. let z = none not in subst (HasSize n) (sym (is_spread.sum ∙ ap (λ (b : Bool). is_spread.of_normal +ℤ slack_where b (edge.length +ℤ edge.length)) not ∙ (let e : is_spread.of_normal +ℤ pos 0 ≡ is_spread.of_normal = omega (arith, linear) in e)))
      (unturned_size n turn.normal q (whole_point edge.from) (whole_point edge.to) _ _ _ n_is near is_spread.of_normal is_spread.size z.0 z.1 z.2))

  pub is_turned : IsTurned edge turn n
  is_turned = record {
    by_x = through.at.x -ℤ q.x;
    by_y = through.at.y -ℤ q.y;
    by_z = through.at.z -ℤ q.z;
    x = x_in;
    y = y_in;
    z = z_in;
    fixed = none;
    at = q;
    normal = n_is;
    near = near;
    size = size_is;
  }

-- ---- between which distances a corner lies

-- what a normal has along what is left between a point and a whole point near it
module _ (edge : Edge) (turn : Turn) (n : Vector) (p q : Point) (loose : Bool) (slack : ℤ) (turned : IsTurned edge turn n) (slack_is : IsPointSlack edge turn loose slack)
    (x_in : IsWithin (p.x -ℤ (q.x *ℤ p.w)) p.w) (y_in : IsWithin (p.y -ℤ (q.y *ℤ p.w)) p.w) (z_in : IsWithin (p.z -ℤ (q.z *ℤ p.w)) p.w)
    (none : loose ≡ false → (p.x -ℤ (q.x *ℤ p.w) ≡ pos 0) × (p.y -ℤ (q.y *ℤ p.w) ≡ pos 0) × (p.z -ℤ (q.z *ℤ p.w) ≡ pos 0)) where
  pub rest_within : IsWithin (((n.x *ℤ (p.x -ℤ (q.x *ℤ p.w))) +ℤ (n.y *ℤ (p.y -ℤ (q.y *ℤ p.w)))) +ℤ (n.z *ℤ (p.z -ℤ (q.z *ℤ p.w)))) (slack *ℤ p.w)
  rest_within = by_flag loose
      (λ yes. dot_within n slack (p.x -ℤ (q.x *ℤ p.w)) (p.y -ℤ (q.y *ℤ p.w)) (p.z -ℤ (q.z *ℤ p.w)) p.w (turned.size slack (slack_is.some yes)) x_in y_in z_in)
      (λ not.
      let z = none not in
      let a = ap (λ (t : ℤ). n.x *ℤ t) z.0 in let b = ap (λ (t : ℤ). n.y *ℤ t) z.1 in let c = ap (λ (t : ℤ). n.z *ℤ t) z.2 in
      let i = *ℤ_zero n.x in let j = *ℤ_zero n.y in let k = *ℤ_zero n.z in
      let l = ap (λ (s : ℤ). s *ℤ p.w) (slack_is.none not) in let m = zero_*ℤ p.w in
      record { low = omega (arith, linear); high = omega (arith, linear) })

no_step : (n : Vector) (q : Point) → dot n (vector_between q q) ≡ pos 0
unfolding dot vector_between
no_step n q =
    let t = variable in
    solved (n.x ∷ n.y ∷ n.z ∷ q.x ∷ q.y ∷ q.z ∷ []) ((t 0 ⊗ (t 3 ⊖ t 3) ⊕ t 1 ⊗ (t 4 ⊖ t 4)) ⊕ t 2 ⊗ (t 5 ⊖ t 5)) (number (pos 0)) tt

-- a normal has nothing along a step in its plane
across_step : (n : Vector) (at from to : Point) → direction_of n ≡ normal_of (outward_plane at from to) → dot n (vector_between from at) ≡ pos 0
unfolding dot vector_between outward_plane
across_step n at from to is =
    ap (λ (p : Point). ((p.x *ℤ (at.x -ℤ from.x)) +ℤ (p.y *ℤ (at.y -ℤ from.y))) +ℤ (p.z *ℤ (at.z -ℤ from.z))) is
    ∙ (let t = variable in
    let a = t 0 ⊖ t 3 in let b = t 1 ⊖ t 4 in let c = t 2 ⊖ t 5 in let d = t 6 ⊖ t 3 in let e = t 7 ⊖ t 4 in let f = t 8 ⊖ t 5 in
    solved (at.x ∷ at.y ∷ at.z ∷ from.x ∷ from.y ∷ from.z ∷ to.x ∷ to.y ∷ to.z ∷ [])
    (((b ⊗ f ⊖ c ⊗ e) ⊗ a ⊕ (c ⊗ d ⊖ a ⊗ f) ⊗ b) ⊕ (a ⊗ e ⊖ b ⊗ d) ⊗ c) (number (pos 0)) tt)

module _ (edge : Edge) (turn : Turn) (p : Point) (n : Vector) (weight : pos 0 <ℤ p.w) (turned : IsTurned edge turn n) (slack : ℤ) (reach : Reach) (around : LiesAround (pos 0) slack reach) where
  lies_own : (q : Point) → dot n (vector_between (whole_point edge.from) q) ≡ pos 0 →
      IsWithin (((n.x *ℤ (p.x -ℤ (q.x *ℤ p.w))) +ℤ (n.y *ℤ (p.y -ℤ (q.y *ℤ p.w)))) +ℤ (n.z *ℤ (p.z -ℤ (q.z *ℤ p.w)))) (slack *ℤ p.w) → LiesBetween n (part_along n (whole_point edge.from)) reach p
  lies_own q nothing rest = lies_by n p q (whole_point edge.from) weight (pos 0) (pos 0) slack (omega (arith, linear)) (omega (arith, linear)) rest reach around.low around.high

  -- the edge's first corner
  pub lies_first : (spot : Spot) → IsSpotOf p spot → AreCoordinatesBy IsNearest p edge.from → IsPointSlack edge turn spot.loose slack → LiesBetween n (part_along n (whole_point edge.from)) reach p
  lies_first spot is near slack_is =
      let q = whole_point edge.from in
      lies_own q (no_step n q)
      (rest_within edge turn n p q spot.loose slack turned slack_is (nearest_within p.x p.w q.x weight near.of_x) (nearest_within p.y p.w q.y weight near.of_y) (nearest_within p.z p.w q.z weight near.of_z)
      (λ not. let f = is.fixed not in (
        fixed_rest p.x p.w _ _ weight is.below.of_x is.above.of_x f.x q.x near.of_x,
        fixed_rest p.y p.w _ _ weight is.below.of_y is.above.of_y f.y q.y near.of_y,
        fixed_rest p.z p.w _ _ weight is.below.of_z is.above.of_z f.z q.z near.of_z,
      )))

  -- the corner near which the planes go
  pub lies_near : (spot : Spot) → IsSpotOf p spot → IsThrough edge p n → IsPointSlack edge turn spot.loose slack → LiesBetween n (part_along n (whole_point edge.from)) reach p
  lies_near spot is through slack_is =
      let q = through.at in
      lies_own q (across_step n q (whole_point edge.from) (whole_point edge.to) through.normal)
      (rest_within edge turn n p q spot.loose slack turned slack_is (around_within p.x p.w q.x weight through.around.x) (around_within p.y p.w q.y weight through.around.y) (around_within p.z p.w q.z weight through.around.z)
      (λ not. let f = is.fixed not in (
        fixed_around_rest p.x p.w _ _ weight is.below.of_x is.above.of_x f.x q.x through.around.x,
        fixed_around_rest p.y p.w _ _ weight is.below.of_y is.above.of_y f.y q.y through.around.y,
        fixed_around_rest p.z p.w _ _ weight is.below.of_z is.above.of_z f.z q.z through.around.z,
      )))

module _ (edge : Edge) (turn : Turn) (spot : Spot) (p : Point) (n : Vector) (weight : pos 0 <ℤ p.w) (is : IsSpotOf p spot) (turned : IsTurned edge turn n)
    (value slack loose : ℤ) (step : Vector)
    (step_is : step ≡ vector_between (whole_point edge.from) (whole_point spot.nearest)) (value_is : value ≡ dot turn.normal step)
    (slack_is : IsTurnSlack edge turn spot slack) (loose_is : IsPointSlack edge turn spot.loose loose) where
  abbrev from : Point
  from = whole_point edge.from

  abbrev near : Point
  near = whole_point spot.nearest

  abbrev across : Vector
  across = let m = normal_of (outward_plane near from (whole_point edge.to)) in record { x = m.x; y = m.y; z = m.z }

  value_near : value ≡ dot turn.normal (vector_between from near)
  value_near = value_is ∙ ap (dot turn.normal) step_is

  in_values : IsWithin (dot n (vector_between from near) -ℤ value) slack
  in_values = by_flag turn.loose
      (λ yes.
      let some = slack_is.some yes in
      let e = turned_value n turn.normal some.0 turned.at from (whole_point edge.to) near turned.by_x turned.by_y turned.by_z turned.normal turned.near some.1 in
      let f = dot_within some.0 slack turned.by_x turned.by_y turned.by_z (pos 1) some.2 turned.x turned.y turned.z in
      let g = *ℤ_one slack in let v = value_near in let fl = f.low in let fh = f.high in
      record { low = omega (arith, linear); high = omega (arith, linear) })
      (λ not.
      let none = turned.fixed not in
      let e = turned_value n turn.normal across turned.at from (whole_point edge.to) near turned.by_x turned.by_y turned.by_z turned.normal turned.near refl in
      let a = ap (λ (t : ℤ). across.x *ℤ t) none.0 in let b = ap (λ (t : ℤ). across.y *ℤ t) none.1 in let c = ap (λ (t : ℤ). across.z *ℤ t) none.2 in
      let i = *ℤ_zero across.x in let j = *ℤ_zero across.y in let k = *ℤ_zero across.z in
      let v = value_near in let s = slack_is.none not in
      record { low = omega (arith, linear); high = omega (arith, linear) })

  pub lies_between : (sum : ℤ) → sum ≡ slack +ℤ loose → (reach : Reach) → LiesAround value sum reach → LiesBetween n (part_along n from) reach p
  lies_between sum sum_is reach around =
      let v = in_values in let vl = v.low in let vh = v.high in let rl = around.low in let rh = around.high in
      lies_by n p near from weight (value -ℤ slack) (value +ℤ slack) loose (omega (arith, linear)) (omega (arith, linear))
      (rest_within edge turn n p near spot.loose loose turned loose_is (nearest_within p.x p.w near.x weight is.nearest.of_x) (nearest_within p.y p.w near.y weight is.nearest.of_y) (nearest_within p.z p.w near.z weight is.nearest.of_z)
      (λ not. let f = is.fixed not in (
        fixed_rest p.x p.w _ _ weight is.below.of_x is.above.of_x f.x near.x is.nearest.of_x,
        fixed_rest p.y p.w _ _ weight is.below.of_y is.above.of_y f.y near.y is.nearest.of_y,
        fixed_rest p.z p.w _ _ weight is.below.of_z is.above.of_z f.z near.z is.nearest.of_z,
      )))
      reach (omega (arith, linear)) (omega (arith, linear))
