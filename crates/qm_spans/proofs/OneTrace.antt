-- A segment has one trace. Between two places of it there is a point, and two places in lowest terms of which neither comes
-- before the other are the same; nothing has to be known of planes.
use Rattle.std.proofs.Common.{◌≡◌, ℕ, ◌+◌, ◌-◌, ◌*◌, ◌<◌, ◌≤◌, ℤ, pos, ◌+ℤ◌, ◌*ℤ◌, ◌⊎◌, ⊎_elim, List, [], ◌∷◌, refl, ap, ap₂, sym, subst, ◌∙◌, arith, mul-le-mul, unsigned_abs}
use Rattle.std.specs.Int.{◌∣◌}
use Rattle.std.proofs.lemmas.Bool.{cases_lt}
use Rattle.std.proofs.Math.Nat.{mul-lt-mul_of_pos_right, lt_of_mul-lt-mul_left, dvd-mul_right, dvd_antisymm, eq-one_of_dvd-one}
use Rattle.qm_numbers.specs.Gcd.{gcd}
use Rattle.qm_numbers.proofs.IntegerProducts.{linear, *ℤ_one}
use Rattle.qm_numbers.proofs.Signs.{abs_product}
use Rattle.qm_numbers.proofs.Ring.{variable, ◌⊕◌, ◌⊗◌, solved}
use Rattle.qm_numbers.proofs.Divisors.{gcd_combination, gcd_divides_left, gcd_divides_right}
use Rattle.qm_space.specs.Point.{Point}
use Rattle.qm_partition.specs.Tree.{Tree}
use Rattle.qm_partition.specs.LeafOfPoint.{leaf_at}
use Rattle.qm_spans.specs.declared.span.Span.{Span}
use Rattle.qm_spans.specs.Place.{PlaceOnSegment, start_place, end_place, place_by_parts, IsEarlierPlace, IsLowestPlace}
use Rattle.qm_spans.specs.Spans.{IsSpan, IsOtherThanNext, AreSpans}
use Rattle.qm_spans.specs.SegmentTrace.{IsSegmentTrace}

-- ---- the order of places

abbrev pub IsNotLaterPlace : PlaceOnSegment → PlaceOnSegment → Type 0
IsNotLaterPlace p q = p.0 * q.1 ≤ q.0 * p.1

pub earlier_or_not : (p q : PlaceOnSegment) → IsEarlierPlace p q ⊎ IsNotLaterPlace q p
earlier_or_not p q = cases_lt (p.0 * q.1) (q.0 * p.1)

pub not_later_then_earlier : (p q r : PlaceOnSegment) → 0 < p.1 → IsNotLaterPlace p q → IsEarlierPlace q r → IsEarlierPlace p r
not_later_then_earlier p q r some first second =
    let s : (p.0 * q.1) * r.1 ≤ (q.0 * p.1) * r.1 = mul-le-mul first (omega arith) in
    let t : (q.0 * r.1) * p.1 < (r.0 * q.1) * p.1 = mul-lt-mul_of_pos_right second some in
    lt_of_mul-lt-mul_left q.1 (omega (arith, s, t))

pub earlier_then_not_later : (p q r : PlaceOnSegment) → 0 < r.1 → IsEarlierPlace p q → IsNotLaterPlace q r → IsEarlierPlace p r
earlier_then_not_later p q r some first second =
    let s : (p.0 * q.1) * r.1 < (q.0 * p.1) * r.1 = mul-lt-mul_of_pos_right first some in
    let t : (q.0 * r.1) * p.1 ≤ (r.0 * q.1) * p.1 = mul-le-mul second (omega arith) in
    lt_of_mul-lt-mul_left q.1 (omega (arith, s, t))

-- ---- places in lowest terms

swapped_product : (x y p q r s : ℤ) → (x *ℤ p) +ℤ (y *ℤ q) ≡ pos 1 → p *ℤ s ≡ r *ℤ q → s ≡ q *ℤ ((x *ℤ r) +ℤ (y *ℤ s))
swapped_product x y p q r s total same =
    let v = variable in
    let e = ap (λ z. s *ℤ z) total in
    let f = *ℤ_one s in
    let g = ap (λ z. x *ℤ z) same in
    let h = solved (x ∷ y ∷ p ∷ q ∷ s ∷ []) (v 4 ⊗ (v 0 ⊗ v 2 ⊕ v 1 ⊗ v 3)) (v 0 ⊗ (v 2 ⊗ v 4) ⊕ v 1 ⊗ (v 3 ⊗ v 4)) tt in
    let k = solved (x ∷ y ∷ q ∷ r ∷ s ∷ []) (v 2 ⊗ (v 0 ⊗ v 3 ⊕ v 1 ⊗ v 4)) (v 0 ⊗ (v 3 ⊗ v 2) ⊕ v 1 ⊗ (v 2 ⊗ v 4)) tt in
    omega (arith, linear, e, f, g, h, k)

divides_other : (p q r s : ℕ) → ((d : ℕ) → d ∣ p → d ∣ q → d ≡ 1) → p * s ≡ r * q → q ∣ s
divides_other p q r s lowest same =
    let c = gcd_combination p q in
    let total : (c.x *ℤ pos p) +ℤ (c.y *ℤ pos q) ≡ pos 1 = c.total ∙ ap pos (lowest (gcd p q) (gcd_divides_left p q) (gcd_divides_right p q)) in
    let e = swapped_product c.x c.y (pos p) (pos q) (pos r) (pos s) total (ap pos same) in
    let f : s ≡ q * unsigned_abs ((c.x *ℤ pos r) +ℤ (c.y *ℤ pos s)) = ap unsigned_abs e ∙ abs_product (pos q) ((c.x *ℤ pos r) +ℤ (c.y *ℤ pos s)) in
    subst (λ (n : ℕ). q ∣ n) (sym f) (dvd-mul_right q (unsigned_abs ((c.x *ℤ pos r) +ℤ (c.y *ℤ pos s))))

same_over : (p r n : ℕ) → 0 < n → p * n ≡ r * n → p ≡ r
same_over p r n some same = ⊎_elim
    (λ less. let m : p * n < r * n = mul-lt-mul_of_pos_right less some in absurd (omega (arith, m, same)))
    (λ least. ⊎_elim
    (λ more. let m : r * n < p * n = mul-lt-mul_of_pos_right more some in absurd (omega (arith, m, same)))
    (λ most. omega (arith, least, most)) (cases_lt r p))
    (cases_lt p r)

one_place : (p q : PlaceOnSegment) → IsLowestPlace p → IsLowestPlace q → IsNotLaterPlace p q → IsNotLaterPlace q p → p ≡ q
one_place p q lowest_p lowest_q first second =
    let same : p.0 * q.1 ≡ q.0 * p.1 = omega (arith, first, second) in
    let under : p.1 ≡ q.1 = dvd_antisymm (divides_other p.0 p.1 q.0 q.1 lowest_p.lowest same) (divides_other q.0 q.1 p.0 p.1 lowest_q.lowest (sym same)) in
    let over : p.0 ≡ q.0 = same_over p.0 q.0 q.1 lowest_q.some (same ∙ ap (λ (n : ℕ). q.0 * n) under) in
    ap₂ (λ (a : ℕ) (b : ℕ). (a, b)) over under

-- ---- a point between places

record IsPlaceBetween (p q r : PlaceOnSegment) : Type 0 where
  i : ℕ
  j : ℕ
  after : IsEarlierPlace p (place_by_parts i j)
  before_first : IsEarlierPlace (place_by_parts i j) q
  before_second : IsEarlierPlace (place_by_parts i j) r

mediant : (p s q t : ℕ) → p * (t + q) < q * (s + p) → (p * ((s + t) + (p + q)) < (p + q) * (s + p)) × ((p + q) * (t + q) < q * ((s + t) + (p + q)))
mediant p s q t less = (omega (arith, less), omega (arith, less))

module _ (p q : PlaceOnSegment) (most_p : p.0 ≤ p.1) (most_q : q.0 ≤ q.1) (less : IsEarlierPlace p q) where
  parts_between : ℕ
  parts_between = (p.1 - p.0) + (q.1 - q.0)

  mediant_place : IsEarlierPlace p (place_by_parts parts_between (p.0 + q.0)) × IsEarlierPlace (place_by_parts parts_between (p.0 + q.0)) q
  unfolding parts_between
  mediant_place =
      let e : (p.1 - p.0) + p.0 ≡ p.1 = omega (arith, most_p) in
      let f : (q.1 - q.0) + q.0 ≡ q.1 = omega (arith, most_q) in
      subst (λ (m : ℕ). (p.0 * (parts_between + (p.0 + q.0)) < (p.0 + q.0) * m) × ((p.0 + q.0) * q.1 < q.0 * (parts_between + (p.0 + q.0)))) e
      (subst (λ (m : ℕ). (p.0 * (parts_between + (p.0 + q.0)) < (p.0 + q.0) * ((p.1 - p.0) + p.0)) × ((p.0 + q.0) * m < q.0 * (parts_between + (p.0 + q.0)))) f
      (mediant p.0 (p.1 - p.0) q.0 (q.1 - q.0) (subst (λ (m : ℕ). p.0 * m < q.0 * ((p.1 - p.0) + p.0)) (sym f) (subst (λ (m : ℕ). p.0 * q.1 < q.0 * m) (sym e) less))))

place_between : (p q r : PlaceOnSegment) → p.0 ≤ p.1 → IsLowestPlace q → IsLowestPlace r → IsEarlierPlace p q → IsEarlierPlace p r → IsPlaceBetween p q r
place_between p q r most_p lowest_q lowest_r first second = ⊎_elim
    (λ less.
    let at = mediant_place p r most_p lowest_r.most second in
    let here = place_by_parts (parts_between p r most_p lowest_r.most second) (p.0 + r.0) in
    record {
      i = parts_between p r most_p lowest_r.most second;
      j = p.0 + r.0;
      after = at.0;
      before_first = earlier_then_not_later here r q lowest_q.some at.1 (omega (arith, less));
      before_second = at.1;
    })
    (λ not.
    let at = mediant_place p q most_p lowest_q.most first in
    let here = place_by_parts (parts_between p q most_p lowest_q.most first) (p.0 + q.0) in
    record {
      i = parts_between p q most_p lowest_q.most first;
      j = p.0 + q.0;
      after = at.0;
      before_first = at.1;
      before_second = earlier_then_not_later here q r lowest_r.some at.1 not;
    })
    (earlier_or_not r q)

-- ---- one list of spans

module _ (leaf_of : Point → ℕ) (a b : Point) where
  -- spans end where they end or later
  spans_rise : (from to : PlaceOnSegment) (spans : List Span) → 0 < from.1 → AreSpans leaf_of a b from to spans → IsNotLaterPlace from to
  spans_rise from to [] some are = subst (λ (p : PlaceOnSegment). IsNotLaterPlace from p) are (omega arith)
  spans_rise from to (span ∷ spans) some are =
      let rest = spans_rise span.to to spans are.0.place.some are.2 in
      ⊎_elim (λ less. absurd (omega (arith, not_later_then_earlier span.to to from are.0.place.some rest less, are.0.rises))) (λ not. not) (earlier_or_not to from)

  -- both lists' first spans have one leaf
  same_leaf : (from : PlaceOnSegment) (x y : Span) → from.0 ≤ from.1 → IsSpan leaf_of a b from x → IsSpan leaf_of a b from y → x.leaf ≡ y.leaf
  same_leaf from x y most is_x is_y =
      let at = place_between from x.to y.to most is_x.place is_y.place is_x.rises is_y.rises in
      sym (is_x.leaf_is at.i at.j at.after at.before_first) ∙ is_y.leaf_is at.i at.j at.after at.before_second

  -- the first span of the one does not end before that of the other
  not_sooner : (from to : PlaceOnSegment) (x y : Span) (xs : List Span) → IsLowestPlace from → IsSpan leaf_of a b from x → IsOtherThanNext x.leaf xs → AreSpans leaf_of a b x.to to xs → IsSpan leaf_of a b from y → IsNotLaterPlace y.to to → IsEarlierPlace x.to y.to → ⊥
  not_sooner from to x y [] lowest is_x other are is_y within less =
      absurd (omega (arith, within, subst (λ (p : PlaceOnSegment). IsEarlierPlace p y.to) are less))
  not_sooner from to x y (next ∷ rest) lowest is_x other are is_y within less =
      let at = place_between x.to next.to y.to is_x.place.most are.0.place is_y.place are.0.rises less in
      let past = not_later_then_earlier from x.to (place_by_parts at.i at.j) lowest.some (omega (arith, is_x.rises)) at.after in
      let same = sym (is_y.leaf_is at.i at.j past at.before_second) ∙ are.0.leaf_is at.i at.j at.after at.before_first in
      other (same_leaf from x y lowest.most is_x is_y ∙ same)

  same_end : (from to : PlaceOnSegment) (x y : Span) (xs ys : List Span) → IsLowestPlace from → AreSpans leaf_of a b from to (x ∷ xs) → AreSpans leaf_of a b from to (y ∷ ys) → x.to ≡ y.to
  same_end from to x y xs ys lowest first second =
      let within_x = spans_rise x.to to xs first.0.place.some first.2 in
      let within_y = spans_rise y.to to ys second.0.place.some second.2 in
      ⊎_elim
      (λ less. absurd (not_sooner from to x y xs lowest first.0 first.1 first.2 second.0 within_y less))
      (λ not_sooner_x. ⊎_elim
      (λ less. absurd (not_sooner from to y x ys lowest second.0 second.1 second.2 first.0 within_x less))
      (λ not_sooner_y. one_place x.to y.to first.0.place second.0.place not_sooner_y not_sooner_x)
      (earlier_or_not y.to x.to))
      (earlier_or_not x.to y.to)

  nothing_left : (from to : PlaceOnSegment) (y : Span) (ys : List Span) → IsLowestPlace from → from ≡ to → AreSpans leaf_of a b from to (y ∷ ys) → ⊥
  nothing_left from to y ys lowest same are =
      let within = spans_rise y.to to ys are.0.place.some are.2 in
      absurd (omega (arith, within, subst (λ (p : PlaceOnSegment). IsEarlierPlace p y.to) same are.0.rises))

  pub one_list : (from to : PlaceOnSegment) (xs ys : List Span) → IsLowestPlace from → AreSpans leaf_of a b from to xs → AreSpans leaf_of a b from to ys → xs ≡ ys
  one_list from to [] [] lowest first second = refl
  one_list from to [] (y ∷ ys) lowest first second = absurd (nothing_left from to y ys lowest first second)
  one_list from to (x ∷ xs) [] lowest first second = absurd (nothing_left from to x xs lowest second first)
  one_list from to (x ∷ xs) (y ∷ ys) lowest first second =
      let leaf = same_leaf from x y lowest.most first.0 second.0 in
      let end = same_end from to x y xs ys lowest first second in
      let span : x ≡ y = λ i. record { leaf = leaf i; to = end i } in
      let rest = one_list x.to to xs ys first.0.place first.2 (subst (λ (p : PlaceOnSegment). AreSpans leaf_of a b p to ys) (sym end) second.2) in
      ap₂ (λ (s : Span) (ss : List Span). s ∷ ss) span rest

-- ---- one trace

start_is_lowest : IsLowestPlace start_place
start_is_lowest = record { some = omega arith; most = omega arith; lowest = λ d zero one. eq-one_of_dvd-one one }

pub one_trace : (tree : Tree) (a b : Point) (one other : List Span) → IsSegmentTrace tree a b one → IsSegmentTrace tree a b other → one ≡ other
one_trace tree a b one other is_one is_other = one_list (leaf_at tree.planes tree.shape) a b start_place end_place one other start_is_lowest is_one is_other
