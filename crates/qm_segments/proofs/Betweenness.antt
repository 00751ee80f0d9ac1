-- Points in line: what lies between two points, and a plane's values at three points in line.
use Rattle.std.proofs.Common.{◌≡◌, ℤ, pos, neg_ℤ, ◌+ℤ◌, ◌*ℤ◌, ◌<ℤ◌, unsigned_abs, ◌+◌, get_or, List, [], ◌∷◌, sym, ap, ◌∙◌, arith, ◌⊎◌, ⊎_elim}
use Rattle.std.proofs.lemmas.Int.{ints}
use Rattle.qm_space.specs.Point.{Point, point_sum, point_times, IsInCube}
use Rattle.qm_space.specs.Plane.{Plane, value, IsOn, IsInFront, IsBehind, IsNotBehind, IsNotInFront}
use Rattle.qm_space.specs.Cell.{IsInCell}
use Rattle.qm_space.specs.Cube.{cube_walls}
use Rattle.qm_space.specs.Line.{IsBetween}
use Rattle.qm_numbers.proofs.IntegerProducts.{linear, one_*ℤ, *ℤ_one, *ℤ_zero, *ℤ-neg}
use Rattle.qm_numbers.proofs.Signs.{by_least, product_positive, product_not_negative, product_not_positive, positive_times_negative, positive_beside, zero_beside_positive, times_at_most}
use Rattle.qm_numbers.proofs.Ring.{variable, ◌⊕◌, ◌⊗◌, solved}
use Rattle.qm_space.proofs.Planes.{value_sum, value_times, same_point}
use Rattle.qm_space.proofs.Cubes.{cube_is_cell}

-- ---- which points lie between which

pub between_turned : (x p q : Point) → IsBetween x p q → IsBetween x q p
between_turned x p q b = record {
  times_p = b.times_p;
  times_q = b.times_r;
  times_r = b.times_q;
  some_p = b.some_p;
  some_q = b.some_r;
  some_r = b.some_q;
  sum = b.sum ∙ same_point (point_sum (point_times b.times_q p) (point_times b.times_r q)) (point_sum (point_times b.times_r q) (point_times b.times_q p)) (omega (arith, linear)) (omega (arith, linear)) (omega (arith, linear)) (omega (arith, linear));
}

-- the sum of two points lies between them
pub sum_between : (p q : Point) → IsBetween (point_sum p q) p q
sum_between p q = record {
  times_p = pos 1;
  times_q = pos 1;
  times_r = pos 1;
  some_p = omega (arith, ints);
  some_q = omega (arith, ints);
  some_r = omega (arith, ints);
  sum = same_point (point_times (pos 1) (point_sum p q)) (point_sum (point_times (pos 1) p) (point_times (pos 1) q)) (one p.x q.x) (one p.y q.y) (one p.z q.z) (one p.w q.w);
}
  where
    one : (a b : ℤ) → pos 1 *ℤ (a +ℤ b) ≡ (pos 1 *ℤ a) +ℤ (pos 1 *ℤ b)
    one a b = let e = one_*ℤ (a +ℤ b) in let f = one_*ℤ a in let g = one_*ℤ b in omega (arith, linear)

-- one number of the four, where y is made of p and x, and x of p and q
module _ (k i j l m n x p q y : ℤ) (outer : k *ℤ x ≡ (i *ℤ p) +ℤ (j *ℤ q)) (inner : l *ℤ y ≡ (m *ℤ p) +ℤ (n *ℤ x)) where
  abbrev numbers : List ℤ
  numbers = k ∷ i ∷ j ∷ l ∷ m ∷ n ∷ x ∷ p ∷ q ∷ y ∷ []

  nearer_number : (k *ℤ l) *ℤ y ≡ (((k *ℤ m) +ℤ (n *ℤ i)) *ℤ p) +ℤ ((n *ℤ j) *ℤ q)
  nearer_number =
      let t = variable in
      solved numbers ((t 0 ⊗ t 3) ⊗ t 9) (t 0 ⊗ (t 3 ⊗ t 9)) tt
      ∙ ap (λ z. k *ℤ z) inner
      ∙ solved numbers (t 0 ⊗ (t 4 ⊗ t 7 ⊕ t 5 ⊗ t 6)) ((t 0 ⊗ t 4) ⊗ t 7 ⊕ t 5 ⊗ (t 0 ⊗ t 6)) tt
      ∙ ap (λ z. ((k *ℤ m) *ℤ p) +ℤ (n *ℤ z)) outer
      ∙ solved numbers ((t 0 ⊗ t 4) ⊗ t 7 ⊕ t 5 ⊗ (t 1 ⊗ t 7 ⊕ t 2 ⊗ t 8)) ((t 0 ⊗ t 4 ⊕ t 5 ⊗ t 1) ⊗ t 7 ⊕ (t 5 ⊗ t 2) ⊗ t 8) tt

  later_number : ((k *ℤ m) +ℤ (i *ℤ n)) *ℤ x ≡ ((i *ℤ l) *ℤ y) +ℤ ((m *ℤ j) *ℤ q)
  later_number =
      let t = variable in
      solved numbers ((t 0 ⊗ t 4 ⊕ t 1 ⊗ t 5) ⊗ t 6) (t 4 ⊗ (t 0 ⊗ t 6) ⊕ t 1 ⊗ (t 5 ⊗ t 6)) tt
      ∙ ap (λ z. (m *ℤ z) +ℤ (i *ℤ (n *ℤ x))) outer
      ∙ solved numbers (t 4 ⊗ (t 1 ⊗ t 7 ⊕ t 2 ⊗ t 8) ⊕ t 1 ⊗ (t 5 ⊗ t 6)) (t 1 ⊗ (t 4 ⊗ t 7 ⊕ t 5 ⊗ t 6) ⊕ (t 4 ⊗ t 2) ⊗ t 8) tt
      ∙ ap (λ z. (i *ℤ z) +ℤ ((m *ℤ j) *ℤ q)) (sym inner)
      ∙ solved numbers (t 1 ⊗ (t 3 ⊗ t 9) ⊕ (t 4 ⊗ t 2) ⊗ t 8) ((t 1 ⊗ t 3) ⊗ t 9 ⊕ (t 4 ⊗ t 2) ⊗ t 8) tt

-- y comes before x, and x before q: so y before q, and x is between them
module _ (p q x y : Point) (outer : IsBetween x p q) (inner : IsBetween y p x) where
  abbrev k : ℤ
  k = outer.times_p

  abbrev i : ℤ
  i = outer.times_q

  abbrev j : ℤ
  j = outer.times_r

  abbrev l : ℤ
  l = inner.times_p

  abbrev m : ℤ
  m = inner.times_q

  abbrev n : ℤ
  n = inner.times_r

  pub nearer_between : IsBetween y p q
  nearer_between = record {
    times_p = k *ℤ l;
    times_q = (k *ℤ m) +ℤ (n *ℤ i);
    times_r = n *ℤ j;
    some_p = product_positive k l outer.some_p inner.some_p;
    some_q = let a = product_positive k m outer.some_p inner.some_q in let b = product_positive n i inner.some_r outer.some_q in omega (arith, linear);
    some_r = product_positive n j inner.some_r outer.some_r;
    sum = same_point (point_times (k *ℤ l) y) (point_sum (point_times ((k *ℤ m) +ℤ (n *ℤ i)) p) (point_times (n *ℤ j) q))
        (nearer_number k i j l m n x.x p.x q.x y.x (ap (λ z. z.x) outer.sum) (ap (λ z. z.x) inner.sum))
        (nearer_number k i j l m n x.y p.y q.y y.y (ap (λ z. z.y) outer.sum) (ap (λ z. z.y) inner.sum))
        (nearer_number k i j l m n x.z p.z q.z y.z (ap (λ z. z.z) outer.sum) (ap (λ z. z.z) inner.sum))
        (nearer_number k i j l m n x.w p.w q.w y.w (ap (λ z. z.w) outer.sum) (ap (λ z. z.w) inner.sum));
  }

  pub later_between : IsBetween x y q
  later_between = record {
    times_p = (k *ℤ m) +ℤ (i *ℤ n);
    times_q = i *ℤ l;
    times_r = m *ℤ j;
    some_p = let a = product_positive k m outer.some_p inner.some_q in let b = product_positive i n outer.some_q inner.some_r in omega (arith, linear);
    some_q = product_positive i l outer.some_q inner.some_p;
    some_r = product_positive m j inner.some_q outer.some_r;
    sum = same_point (point_times ((k *ℤ m) +ℤ (i *ℤ n)) x) (point_sum (point_times (i *ℤ l) y) (point_times (m *ℤ j) q))
        (later_number k i j l m n x.x p.x q.x y.x (ap (λ z. z.x) outer.sum) (ap (λ z. z.x) inner.sum))
        (later_number k i j l m n x.y p.y q.y y.y (ap (λ z. z.y) outer.sum) (ap (λ z. z.y) inner.sum))
        (later_number k i j l m n x.z p.z q.z y.z (ap (λ z. z.z) outer.sum) (ap (λ z. z.z) inner.sum))
        (later_number k i j l m n x.w p.w q.w y.w (ap (λ z. z.w) outer.sum) (ap (λ z. z.w) inner.sum));
  }

-- the same from the other end: x comes after p, and y after x
module _ (p q x y : Point) (outer : IsBetween x p q) (inner : IsBetween y x q) where
  pub farther_between : IsBetween y p q
  farther_between = between_turned y q p (nearer_between q p x y (between_turned x p q outer) (between_turned y x q inner))

  pub earlier_between : IsBetween x p y
  earlier_between = between_turned x y p (later_between q p x y (between_turned x p q outer) (between_turned y x q inner))

-- with x before m and y after it, m is between them
pub between_both : (p q m x y : Point) → IsBetween m p q → IsBetween x p m → IsBetween y m q → IsBetween m x y
between_both p q m x y at before after = earlier_between x q m y (later_between p q m x at before) after

-- ---- a plane's values at three points in line

pub between_value : (h : Plane) (x p q : Point) (b : IsBetween x p q) → b.times_p *ℤ value h x ≡ (b.times_q *ℤ value h p) +ℤ (b.times_r *ℤ value h q)
between_value h x p q b =
    sym (value_times h b.times_p x)
    ∙ ap (value h) b.sum
    ∙ value_sum h (point_times b.times_q p) (point_times b.times_r q)
    ∙ (let e = value_times h b.times_q p in let f = value_times h b.times_r q in omega (arith, linear))

module _ (h : Plane) (x p q : Point) (b : IsBetween x p q) where
  -- in front at one end and not behind at the other
  pub between_in_front : IsNotBehind h p → IsInFront h q → IsInFront h x
  between_in_front not front =
      let e = between_value h x p q b in
      let m = product_not_negative b.times_q (value h p) (omega (arith, linear, b.some_q)) not in
      let n = product_positive b.times_r (value h q) b.some_r front in
      positive_beside b.times_p (value h x) b.some_p (omega (arith, linear))

  -- on the plane between, and in front at the far end: behind at the near one
  pub behind_before : IsOn h x → IsInFront h q → IsBehind h p
  behind_before on front =
      let e = between_value h x p q b in
      let z = ap (λ v. b.times_p *ℤ v) on ∙ *ℤ_zero b.times_p in
      let n = product_positive b.times_r (value h q) b.some_r front in
      by_least (value h p) (pos 0)
      (λ below. below)
      (λ above. let m = product_not_negative b.times_q (value h p) (omega (arith, linear, b.some_q)) above in absurd (omega (arith, linear)))

  -- on the plane, or in front, at the near end, and in front between: in front at the far end
  pub front_after : IsOn h p → IsInFront h x → IsInFront h q
  front_after on front =
      let e = between_value h x p q b in
      let z = ap (λ v. b.times_q *ℤ v) on ∙ *ℤ_zero b.times_q in
      let n = product_positive b.times_p (value h x) b.some_p front in
      positive_beside b.times_r (value h q) b.some_r (omega (arith, linear))

  -- on the plane at both ends: on it between
  pub between_on : IsOn h p → IsOn h q → IsOn h x
  between_on on_p on_q =
      let e = between_value h x p q b in
      let y = ap (λ v. b.times_q *ℤ v) on_p ∙ *ℤ_zero b.times_q in
      let z = ap (λ v. b.times_r *ℤ v) on_q ∙ *ℤ_zero b.times_r in
      zero_beside_positive b.times_p (value h x) b.some_p (omega (arith, linear))

  -- on it at the near end and between: on it at the far end
  pub on_after : IsOn h p → IsOn h x → IsOn h q
  on_after on_p on_x =
      let e = between_value h x p q b in
      let y = ap (λ v. b.times_q *ℤ v) on_p ∙ *ℤ_zero b.times_q in
      let z = ap (λ v. b.times_p *ℤ v) on_x ∙ *ℤ_zero b.times_p in
      zero_beside_positive b.times_r (value h q) b.some_r (omega (arith, linear))

-- a plane with the first of three points in line not in front of it, and the second not behind it, one of them not on it,
-- has the third in front of it
pub beyond_in_front : (h : Plane) (x p q : Point) → IsBetween x p q → IsNotInFront h p → IsNotBehind h x → IsBehind h p ⊎ IsInFront h x → IsInFront h q
beyond_in_front h x p q b first second strict =
    let e = between_value h x p q b in
    let m = product_not_positive b.times_q (value h p) (omega (arith, linear, b.some_q)) first in
    let n = product_not_negative b.times_p (value h x) (omega (arith, linear, b.some_p)) second in
    positive_beside b.times_r (value h q) b.some_r (⊎_elim
    (λ behind. let l = positive_times_negative b.times_q (value h p) b.some_q behind in omega (arith, linear))
    (λ front. let l = product_positive b.times_p (value h x) b.some_p front in omega (arith, linear))
    strict)

-- the same the other way round
pub between_in_front_first : (h : Plane) (x p q : Point) → IsBetween x p q → IsInFront h p → IsNotBehind h q → IsInFront h x
between_in_front_first h x p q b front not = between_in_front h x q p (between_turned x p q b) not front

-- what lies between two points is a point
pub between_weight : (x p q : Point) → IsBetween x p q → pos 0 <ℤ p.w → pos 0 <ℤ q.w → pos 0 <ℤ x.w
between_weight x p q b p_weight q_weight =
    let e = ap (λ z. z.w) b.sum in
    let m = product_positive b.times_q p.w b.some_q p_weight in
    let n = product_positive b.times_r q.w b.some_r q_weight in
    positive_beside b.times_p x.w b.some_p (omega (arith, linear))

-- ---- cells are convex

pub between_in_cell : (cell : List Plane) (x p q : Point) → IsBetween x p q → IsInCell cell p → IsInCell cell q → IsInCell cell x
between_in_cell cell x p q b in_p in_q place d there =
    between_in_front (get_or cell place d) x p q b (let f = in_p place d there in omega (arith, linear)) (in_q place d there)

pub between_in_cube : (x p q : Point) → IsBetween x p q → IsInCube p → IsInCube q → IsInCube x
between_in_cube x p q b in_p in_q = (cube_is_cell x).1 (between_in_cell cube_walls x p q b ((cube_is_cell p).0 in_p) ((cube_is_cell q).0 in_q))

-- ---- what is in front all the way is not behind at the ends

-- many times q, and p
near_end : Point → Point → ℤ → Point
near_end p q k = point_sum p (point_times k q)

near_between : (p q : Point) (k : ℤ) → pos 0 <ℤ k → IsBetween (near_end p q k) p q
unfolding near_end
near_between p q k some = record {
  times_p = pos 1;
  times_q = pos 1;
  times_r = k;
  some_p = omega (arith, ints);
  some_q = omega (arith, ints);
  some_r = some;
  sum = same_point (point_times (pos 1) (near_end p q k)) (point_sum (point_times (pos 1) p) (point_times k q)) (one p.x (k *ℤ q.x)) (one p.y (k *ℤ q.y)) (one p.z (k *ℤ q.z)) (one p.w (k *ℤ q.w));
}
  where
    one : (a b : ℤ) → pos 1 *ℤ (a +ℤ b) ≡ (pos 1 *ℤ a) +ℤ b
    one a b = let e = one_*ℤ (a +ℤ b) in let f = one_*ℤ a in omega (arith, linear)

value_near : (h : Plane) (p q : Point) (k : ℤ) → value h (near_end p q k) ≡ value h p +ℤ (k *ℤ value h q)
unfolding near_end
value_near h p q k = let e = value_sum h p (point_times k q) in let f = value_times h k q in omega (arith, linear)

pub front_up_to_end : (h : Plane) (p q : Point) → ((x : Point) → IsBetween x p q → IsInFront h x) → IsNotBehind h q
front_up_to_end h p q all = by_least (value h q) (pos 0)
    (λ below.
    let k : ℤ = pos (unsigned_abs (value h p) + 1) in
    let front = all (near_end p q k) (near_between p q k (omega (arith, ints))) in
    let e = value_near h p q k in
    let m = times_at_most k (value h q) (neg_ℤ (pos 1)) (omega (arith, ints)) (omega (arith, ints)) in
    let n = *ℤ-neg k (pos 1) in
    let o = *ℤ_one k in
    let size : value h p <ℤ k = omega (arith, ints) in
    absurd (omega (arith, linear)))
    (λ not. not)

pub front_from_start : (h : Plane) (p q : Point) → ((x : Point) → IsBetween x p q → IsInFront h x) → IsNotBehind h p
front_from_start h p q all = front_up_to_end h q p (λ x b. all x (between_turned x q p b))
