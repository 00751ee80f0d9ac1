-- Three points with one w are on one line exactly where multiples of two of their steps are equal.
use Rattle.std.proofs.Common.{◌≡◌, ℤ, pos, neg_ℤ, ◌+ℤ◌, ◌-ℤ◌, ◌*ℤ◌, ◌<ℤ◌, List, [], ◌∷◌, refl, sym, ap, ◌∙◌, arith}
use Rattle.std.proofs.lemmas.Int.{ints}
use Rattle.qm_space.specs.Point.{Point, point_sum, point_times, whole_point, thousandths_point}
use Rattle.qm_space.specs.Line.{four_zeros, AreOnOneLine}
use Rattle.qm_numbers.proofs.IntegerProducts.{linear, zero_*ℤ}
use Rattle.qm_numbers.proofs.Signs.{zero_beside_positive}
use Rattle.qm_numbers.proofs.Ring.{number, variable, negated, ◌⊕◌, ◌⊖◌, ◌⊗◌, solved}
use Rattle.qm_space.proofs.Planes.{same_point}

-- the points have one w, above 0
pub record HaveOneWeight (p q r : Point) : Type 0 where
  pub weight : pos 0 <ℤ q.w
  pub first : p.w ≡ q.w
  pub third : r.w ≡ q.w

pub thousandths_weights : (p q r : List ℤ) → HaveOneWeight (thousandths_point p) (thousandths_point q) (thousandths_point r)
thousandths_weights p q r = record { weight = omega (arith, ints); first = refl; third = refl }

pub whole_weights : (p q r : List ℤ) → HaveOneWeight (whole_point p) (whole_point q) (whole_point r)
whole_weights p q r = record { weight = omega (arith, ints); first = refl; third = refl }

pub weights_of_ones : (p q r : Point) → p.w ≡ pos 1 → q.w ≡ pos 1 → r.w ≡ pos 1 → HaveOneWeight p q r
weights_of_ones p q r wp wq wr = record { weight = omega (arith, ints); first = wp ∙ sym wq; third = wr ∙ sym wq }

-- three points on one line, by two of their steps: i times the step from q to p is j times the step from q to r,
-- where i and j are not both 0
pub record HaveStepsOnOneLine (p q r : Point) : Type 0 where
  pub i : ℤ
  pub j : ℤ
  pub some : (i ≡ pos 0 → j ≡ pos 0 → ⊥)
  pub x : i *ℤ (p.x -ℤ q.x) ≡ j *ℤ (r.x -ℤ q.x)
  pub y : i *ℤ (p.y -ℤ q.y) ≡ j *ℤ (r.y -ℤ q.y)
  pub z : i *ℤ (p.z -ℤ q.z) ≡ j *ℤ (r.z -ℤ q.z)

-- one coordinate, where the multiples add up to 0
step_from : (i j k x y z : ℤ) → (i +ℤ j) +ℤ k ≡ pos 0 → ((i *ℤ x) +ℤ (j *ℤ y)) +ℤ (k *ℤ z) ≡ pos 0 → i *ℤ (x -ℤ y) ≡ neg_ℤ k *ℤ (z -ℤ y)
step_from i j k x y z e f =
    let v = variable in
    let s = solved (i ∷ j ∷ k ∷ x ∷ y ∷ z ∷ []) (v 0 ⊗ (v 3 ⊖ v 4) ⊖ negated (v 2) ⊗ (v 5 ⊖ v 4)) ((v 0 ⊗ v 3 ⊕ v 1 ⊗ v 4 ⊕ v 2 ⊗ v 5) ⊖ (v 0 ⊕ v 1 ⊕ v 2) ⊗ v 4) tt in
    let t : ((i +ℤ j) +ℤ k) *ℤ y ≡ pos 0 = ap (λ n. n *ℤ y) e ∙ zero_*ℤ y in
    omega (arith, linear)

pub steps_from_line : (p q r : Point) → HaveOneWeight p q r → AreOnOneLine p q r → HaveStepsOnOneLine p q r
steps_from_line p q r h l = record {
  i = l.times_p;
  j = neg_ℤ l.times_r;
  some = λ e f. l.some e (omega (arith, linear, total)) (omega (arith, linear));
  x = step_from l.times_p l.times_q l.times_r p.x q.x r.x total (ap (λ s. s.x) l.sum);
  y = step_from l.times_p l.times_q l.times_r p.y q.y r.y total (ap (λ s. s.y) l.sum);
  z = step_from l.times_p l.times_q l.times_r p.z q.z r.z total (ap (λ s. s.z) l.sum);
}
  where
    gathered : (w i j k : ℤ) → w *ℤ ((i +ℤ j) +ℤ k) ≡ ((i *ℤ w) +ℤ (j *ℤ w)) +ℤ (k *ℤ w)
    gathered w i j k =
        let v = variable in
        solved (w ∷ i ∷ j ∷ k ∷ []) (v 0 ⊗ (v 1 ⊕ v 2 ⊕ v 3)) (v 1 ⊗ v 0 ⊕ v 2 ⊗ v 0 ⊕ v 3 ⊗ v 0) tt

    weighted : ((l.times_p *ℤ q.w) +ℤ (l.times_q *ℤ q.w)) +ℤ (l.times_r *ℤ q.w) ≡ pos 0
    weighted =
        sym (λ n. ((l.times_p *ℤ h.first n) +ℤ (l.times_q *ℤ q.w)) +ℤ (l.times_r *ℤ h.third n)) ∙ ap (λ s. s.w) l.sum

    total : (l.times_p +ℤ l.times_q) +ℤ l.times_r ≡ pos 0
    total = zero_beside_positive q.w _ h.weight (gathered q.w l.times_p l.times_q l.times_r ∙ weighted)

-- one coordinate of the sum
sum_from : (i j x y z : ℤ) → i *ℤ (x -ℤ y) ≡ j *ℤ (z -ℤ y) → ((i *ℤ x) +ℤ ((j -ℤ i) *ℤ y)) +ℤ (neg_ℤ j *ℤ z) ≡ pos 0
sum_from i j x y z e =
    let v = variable in
    let s = solved (i ∷ j ∷ x ∷ y ∷ z ∷ []) ((v 0 ⊗ v 2 ⊕ (v 1 ⊖ v 0) ⊗ v 3) ⊕ negated (v 1) ⊗ v 4) (v 0 ⊗ (v 2 ⊖ v 3) ⊖ v 1 ⊗ (v 4 ⊖ v 3)) tt in
    omega (arith, linear)

pub line_from_steps : (p q r : Point) → HaveOneWeight p q r → HaveStepsOnOneLine p q r → AreOnOneLine p q r
line_from_steps p q r h l = record {
  times_p = l.i;
  times_q = l.j -ℤ l.i;
  times_r = neg_ℤ l.j;
  some = λ e _ f. l.some e (omega (arith, linear));
  sum = same_point (point_sum (point_sum (point_times l.i p) (point_times (l.j -ℤ l.i) q)) (point_times (neg_ℤ l.j) r)) four_zeros
      (sum_from l.i l.j p.x q.x r.x l.x) (sum_from l.i l.j p.y q.y r.y l.y) (sum_from l.i l.j p.z q.z r.z l.z)
      ((λ n. ((l.i *ℤ h.first n) +ℤ ((l.j -ℤ l.i) *ℤ q.w)) +ℤ (neg_ℤ l.j *ℤ h.third n)) ∙ gone l.i l.j q.w);
}
  where
    gone : (i j w : ℤ) → ((i *ℤ w) +ℤ ((j -ℤ i) *ℤ w)) +ℤ (neg_ℤ j *ℤ w) ≡ pos 0
    gone i j w =
        let v = variable in
        solved (i ∷ j ∷ w ∷ []) ((v 0 ⊗ v 2 ⊕ (v 1 ⊖ v 0) ⊗ v 2) ⊕ negated (v 1) ⊗ v 2) (number (pos 0)) tt
