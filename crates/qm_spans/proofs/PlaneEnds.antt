-- On which sides of a plane the two ends of a segment lie, and the plane's value between them.
use Rattle.std.proofs.Common.{◌≡◌, ◌≢◌, ℕ, ◌*◌, ◌<◌, ℤ, pos, neg_ℤ, ◌+ℤ◌, ◌*ℤ◌, ◌<ℤ◌, ◌≤ℤ◌, Bool, true, false, ◌&&◌, ◌||◌, refl, ap, sym, ◌∙◌, arith, unsigned_abs}
use Rattle.std.specs.Prelude.{int_lt}
use Rattle.std.proofs.lemmas.Int.{ints}
use Rattle.qm_numbers.proofs.IntegerProducts.{linear, *ℤ-neg}
use Rattle.qm_numbers.proofs.Signs.{by_sign, positive_times_negative, product_not_negative, product_not_positive}
use Rattle.qm_space.specs.Point.{Point, point_times}
use Rattle.qm_space.specs.Plane.{Plane, value}
use Rattle.qm_space.proofs.Planes.{value_sum, value_times}
use Rattle.qm_spans.specs.declared.parting.Parting.{Parting}
use Rattle.qm_spans.specs.Place.{point_on}
use Rattle.qm_spans.specs.Partings.{are_opposed, crossing_at}
use Rattle.qm_spans.proofs.PartingOrder.{IsEarlier}

-- the value at a parting of a plane with the values u and v at the ends
abbrev pub value_at : ℤ → ℤ → Parting → ℤ
value_at u v p = (pos p.behind *ℤ u) +ℤ (pos p.before *ℤ v)

pub value_on : (h : Plane) (a b : Point) (i j : ℕ) → value h (point_on a b i j) ≡ (pos i *ℤ value h a) +ℤ (pos j *ℤ value h b)
value_on h a b i j =
    let s = value_sum h (point_times (pos i) a) (point_times (pos j) b) in
    let t = value_times h (pos i) a in
    let r = value_times h (pos j) b in
    omega (arith, linear)

-- ---- tests of a sign

pub test_below : (z : ℤ) → z <ℤ pos 0 → int_lt z (pos 0) ≡ true
test_below z below = grind (arith, ints)

pub test_not_below : (z : ℤ) → pos 0 ≤ℤ z → int_lt z (pos 0) ≡ false
test_not_below z not = grind (arith, ints)

pub test_above : (z : ℤ) → pos 0 <ℤ z → int_lt (pos 0) z ≡ true
test_above z above = grind (arith, ints)

pub test_not_above : (z : ℤ) → z ≤ℤ pos 0 → int_lt (pos 0) z ≡ false
test_not_above z not = grind (arith, ints)

-- ---- the four cases

pub data AreEnds (u v : ℤ) : Type 0 where
  from_back : u <ℤ pos 0 → pos 0 <ℤ v → are_opposed u v ≡ true → int_lt u (pos 0) ≡ true → int_lt v (pos 0) ≡ false → AreEnds u v
  from_front : pos 0 <ℤ u → v <ℤ pos 0 → are_opposed u v ≡ true → int_lt u (pos 0) ≡ false → int_lt v (pos 0) ≡ true → AreEnds u v
  all_front : pos 0 ≤ℤ u → pos 0 ≤ℤ v → are_opposed u v ≡ false → (int_lt u (pos 0) || int_lt v (pos 0)) ≡ false → AreEnds u v
  all_back : u ≤ℤ pos 0 → v ≤ℤ pos 0 → (u +ℤ v) <ℤ pos 0 → are_opposed u v ≡ false → (int_lt u (pos 0) || int_lt v (pos 0)) ≡ true → AreEnds u v

module _ (u v : ℤ) where
  opposed_by : (a b c d : Bool) → int_lt u (pos 0) ≡ a → int_lt (pos 0) v ≡ b → int_lt v (pos 0) ≡ c → int_lt (pos 0) u ≡ d → are_opposed u v ≡ ((a && b) || (c && d))
  opposed_by a b c d is_a is_b is_c is_d = λ i. (is_a i && is_b i) || (is_c i && is_d i)

  either_by : (a c : Bool) → int_lt u (pos 0) ≡ a → int_lt v (pos 0) ≡ c → (int_lt u (pos 0) || int_lt v (pos 0)) ≡ (a || c)
  either_by a c is_a is_c = λ i. is_a i || is_c i

  rising : u <ℤ pos 0 → pos 0 <ℤ v → AreEnds u v
  rising low high =
      let a = test_below u low in let b = test_above v high in
      let c = test_not_below v (omega (arith, linear, high)) in let d = test_not_above u (omega (arith, linear, low)) in
      from_back low high (opposed_by true true false false a b c d) a c

  falling : pos 0 <ℤ u → v <ℤ pos 0 → AreEnds u v
  falling high low =
      let a = test_not_below u (omega (arith, linear, high)) in let b = test_not_above v (omega (arith, linear, low)) in
      let c = test_below v low in let d = test_above u high in
      from_front high low (opposed_by false false true true a b c d) a c

  not_below : pos 0 ≤ℤ u → pos 0 ≤ℤ v → AreEnds u v
  not_below first second =
      let a = test_not_below u first in let c = test_not_below v second in
      all_front first second (opposed_by false (int_lt (pos 0) v) false (int_lt (pos 0) u) a refl c refl) (either_by false false a c)

  not_above : u ≤ℤ pos 0 → v ≤ℤ pos 0 → (u +ℤ v) <ℤ pos 0 → (int_lt u (pos 0) || int_lt v (pos 0)) ≡ true → AreEnds u v
  not_above first second some either =
      let b = test_not_above v second in let d = test_not_above u first in
      all_back first second some (below (int_lt u (pos 0)) (int_lt v (pos 0)) refl b refl d) either
    where
      below : (a c : Bool) → int_lt u (pos 0) ≡ a → int_lt (pos 0) v ≡ false → int_lt v (pos 0) ≡ c → int_lt (pos 0) u ≡ false → are_opposed u v ≡ false
      below true true is_a is_b is_c is_d = opposed_by true false true false is_a is_b is_c is_d
      below true false is_a is_b is_c is_d = opposed_by true false false false is_a is_b is_c is_d
      below false true is_a is_b is_c is_d = opposed_by false false true false is_a is_b is_c is_d
      below false false is_a is_b is_c is_d = opposed_by false false false false is_a is_b is_c is_d

  pub ends : AreEnds u v
  ends = by_sign u
      (λ low. let a = test_below u low in by_sign v
      (λ low'. not_above (omega (arith, linear, low)) (omega (arith, linear, low')) (omega (arith, linear, low, low')) (either_by true true a (test_below v low')))
      (λ on. not_above (omega (arith, linear, low)) (omega (arith, linear, on)) (omega (arith, linear, low, on)) (either_by true false a (test_not_below v (omega (arith, linear, on)))))
      (λ high. rising low high))
      (λ on. by_sign v
      (λ low. not_above (omega (arith, linear, on)) (omega (arith, linear, low)) (omega (arith, linear, on, low)) (either_by false true (test_not_below u (omega (arith, linear, on))) (test_below v low)))
      (λ on'. not_below (omega (arith, linear, on)) (omega (arith, linear, on')))
      (λ high. not_below (omega (arith, linear, on)) (omega (arith, linear, high))))
      (λ high. by_sign v
      (λ low. falling high low)
      (λ on. not_below (omega (arith, linear, high)) (omega (arith, linear, on)))
      (λ high'. not_below (omega (arith, linear, high)) (omega (arith, linear, high'))))

-- a test says one thing
pub differ : {test : Bool} → test ≡ true → test ≡ false → ⊥
differ is not = cc

-- ---- before the crossing and after it

times_below : (k : ℕ) (z : ℤ) → z <ℤ pos 0 → pos k *ℤ z ≡ neg_ℤ (pos (k * unsigned_abs z))
times_below k z below =
    let e : z ≡ neg_ℤ (pos (unsigned_abs z)) = omega (arith, ints) in
    ap (λ (n : ℤ). pos k *ℤ n) e ∙ *ℤ-neg (pos k) (pos (unsigned_abs z))

times_above : (k : ℕ) (z : ℤ) → pos 0 <ℤ z → pos k *ℤ z ≡ pos (k * unsigned_abs z)
times_above k z above =
    let e : z ≡ pos (unsigned_abs z) = omega (arith, ints) in
    ap (λ (n : ℤ). pos k *ℤ n) e

less_of : (m n : ℕ) → m < n → (neg_ℤ (pos n) +ℤ pos m) <ℤ pos 0
less_of m n less = omega (arith, ints)

less_of' : (m n : ℕ) → m < n → (pos m +ℤ neg_ℤ (pos n)) <ℤ pos 0
less_of' m n less = omega (arith, ints)

more_of : (m n : ℕ) → m < n → pos 0 <ℤ (neg_ℤ (pos m) +ℤ pos n)
more_of m n less = omega (arith, ints)

more_of' : (m n : ℕ) → m < n → pos 0 <ℤ (pos n +ℤ neg_ℤ (pos m))
more_of' m n less = omega (arith, ints)

module _ (u v : ℤ) (p : Parting) where
  value_rising : u <ℤ pos 0 → pos 0 <ℤ v → value_at u v p ≡ neg_ℤ (pos (p.behind * unsigned_abs u)) +ℤ pos (p.before * unsigned_abs v)
  value_rising low high = λ i. times_below p.behind u low i +ℤ times_above p.before v high i

  value_falling : pos 0 <ℤ u → v <ℤ pos 0 → value_at u v p ≡ pos (p.behind * unsigned_abs u) +ℤ neg_ℤ (pos (p.before * unsigned_abs v))
  value_falling high low = λ i. times_above p.behind u high i +ℤ times_below p.before v low i

  pub before_crossing : are_opposed u v ≡ true → IsEarlier p (crossing_at u v) → int_lt (value_at u v p) (pos 0) ≡ int_lt u (pos 0)
  before_crossing opposed less = elim (ends u v) [
    | from_back low high is a c ↦
        let e = value_rising low high in
        let l = less_of (p.before * unsigned_abs v) (p.behind * unsigned_abs u) (omega (arith, less)) in
        test_below (value_at u v p) (omega (arith, linear, e, l)) ∙ sym a
    | from_front high low is a c ↦
        let e = value_falling high low in
        let l = more_of' (p.before * unsigned_abs v) (p.behind * unsigned_abs u) (omega (arith, less)) in
        test_not_below (value_at u v p) (omega (arith, linear, e, l)) ∙ sym a
    | all_front first second not either ↦ absurd (differ opposed not)
    | all_back first second some not either ↦ absurd (differ opposed not)
  ]

  pub after_crossing : are_opposed u v ≡ true → IsEarlier (crossing_at u v) p → int_lt (value_at u v p) (pos 0) ≡ int_lt v (pos 0)
  after_crossing opposed less = elim (ends u v) [
    | from_back low high is a c ↦
        let e = value_rising low high in
        let l = more_of (p.behind * unsigned_abs u) (p.before * unsigned_abs v) (omega (arith, less)) in
        test_not_below (value_at u v p) (omega (arith, linear, e, l)) ∙ sym c
    | from_front high low is a c ↦
        let e = value_falling high low in
        let l = less_of' (p.behind * unsigned_abs u) (p.before * unsigned_abs v) (omega (arith, less)) in
        test_below (value_at u v p) (omega (arith, linear, e, l)) ∙ sym c
    | all_front first second not either ↦ absurd (differ opposed not)
    | all_back first second some not either ↦ absurd (differ opposed not)
  ]

  -- where the ends are not on different sides
  pub one_sided : are_opposed u v ≡ false → 0 < p.before → 0 < p.behind → int_lt (value_at u v p) (pos 0) ≡ (int_lt u (pos 0) || int_lt v (pos 0))
  one_sided not before behind = elim (ends u v) [
    | from_back low high is a c ↦ absurd (differ is not)
    | from_front high low is a c ↦ absurd (differ is not)
    | all_front first second free either ↦
        let s = product_not_negative (pos p.behind) u (omega (arith, ints)) first in
        let t = product_not_negative (pos p.before) v (omega (arith, ints)) second in
        test_not_below (value_at u v p) (omega (arith, linear, s, t)) ∙ sym either
    | all_back first second some free either ↦ test_below (value_at u v p) (all_below first second some) ∙ sym either
  ]
    where
      all_below : u ≤ℤ pos 0 → v ≤ℤ pos 0 → (u +ℤ v) <ℤ pos 0 → value_at u v p <ℤ pos 0
      all_below first second some = by_sign u
          (λ low. let s = positive_times_negative (pos p.behind) u (omega (arith, ints)) low in
          let t = product_not_positive (pos p.before) v (omega (arith, ints)) second in omega (arith, linear, s, t))
          (λ on. let s = product_not_positive (pos p.behind) u (omega (arith, ints)) first in
          let t = positive_times_negative (pos p.before) v (omega (arith, ints)) (omega (arith, linear, on, some)) in omega (arith, linear, s, t))
          (λ high. absurd (omega (arith, linear, high, first)))

module _ (u v : ℤ) where
  -- the crossing lies strictly between the ends
  pub parts_of_crossing : are_opposed u v ≡ true → (0 < unsigned_abs u) × (0 < unsigned_abs v)
  parts_of_crossing opposed = elim (ends u v) [
    | from_back low high is a c ↦ (omega (arith, ints, low), omega (arith, ints, high))
    | from_front high low is a c ↦ (omega (arith, ints, high), omega (arith, ints, low))
    | all_front first second not either ↦ absurd (differ opposed not)
    | all_back first second some not either ↦ absurd (differ opposed not)
  ]

  -- the ends are on different sides
  pub sides_differ : are_opposed u v ≡ true → int_lt u (pos 0) ≢ int_lt v (pos 0)
  sides_differ opposed = elim (ends u v) [
    | from_back low high is a c ↦ λ same. cc
    | from_front high low is a c ↦ λ same. cc
    | all_front first second not either ↦ absurd (differ opposed not)
    | all_back first second some not either ↦ absurd (differ opposed not)
  ]
