-- The place of a parting in lowest terms, and the order of places.
use Rattle.std.proofs.Common.{◌≡◌, ℕ, zero, suc, ◌+◌, ◌*◌, ◌/◌, ◌<◌, ◌↔◌, sym, subst, arith, refl}
use Rattle.std.specs.Int.{◌∣◌}
use Rattle.std.proofs.Math.Nat.{mul-div_cancel', mul-lt-mul_of_pos_right, lt_of_mul-lt-mul_left, dvd-add_iff_left, mul-dvd-mul_left, dvd_of_mul-dvd-mul_left, eq-one_of_dvd-one}
use Rattle.qm_numbers.specs.Gcd.{gcd, gcd_within}
use Rattle.qm_numbers.proofs.Divisors.{divisor_of_two, gcd_divides_left, gcd_divides_right, divides_gcd}
use Rattle.qm_spans.specs.declared.parting.Parting.{Parting}
use Rattle.qm_spans.specs.Place.{PlaceOnSegment, start_place, end_place, place_by_parts, IsEarlierPlace, IsLowestPlace}
use Rattle.qm_spans.specs.Partings.{start_parting, end_parting, common_part, lowest_place}
use Rattle.qm_spans.proofs.PartingOrder.{parts, IsEarlier, parts_behind, parts_before}

pub lowest_start : lowest_place start_parting ≡ start_place
unfolding lowest_place common_part divisor_of_two gcd gcd_within
lowest_start = refl

pub lowest_end : lowest_place end_parting ≡ end_place
unfolding lowest_place common_part divisor_of_two gcd gcd_within
lowest_end = refl

-- ---- fractions of the same parts

cancelled : (g a b c d : ℕ) → (g * a) * b < c * (g * d) → a * b < c * d
cancelled g a b c d less = lt_of_mul-lt-mul_left g (omega (arith, less))

multiplied : (g a b c d : ℕ) → 0 < g → a * b < c * d → (g * a) * b < c * (g * d)
multiplied g a b c d some less = let m : (a * b) * g < (c * d) * g = mul-lt-mul_of_pos_right less some in omega (arith, m)

pub order_by_parts : (i j m n : ℕ) → IsEarlier (parts i j) (parts m n) ↔ IsEarlierPlace (place_by_parts i j) (place_by_parts m n)
order_by_parts i j m n = ((λ less. omega (arith, less)), (λ less. omega (arith, less)))

module _ (p : Parting) (some : 0 < p.before + p.behind) where
  divisor : ℕ
  divisor = gcd p.before p.behind

  over : ℕ
  over = p.before / divisor

  rest : ℕ
  rest = p.behind / divisor

  before_is : divisor * over ≡ p.before
  unfolding divisor over
  before_is = mul-div_cancel' (gcd p.before p.behind) (gcd_divides_left p.before p.behind)

  behind_is : divisor * rest ≡ p.behind
  unfolding divisor rest
  behind_is = mul-div_cancel' (gcd p.before p.behind) (gcd_divides_right p.before p.behind)

  pub some_divisor : 0 < gcd p.before p.behind
  unfolding divisor
  some_divisor = positive divisor over rest before_is behind_is
    where
      positive : (g j i : ℕ) → g * j ≡ p.before → g * i ≡ p.behind → 0 < g
      positive zero j i e f = absurd (omega (arith, e, f, some))
      positive (suc g) j i e f = omega arith

  place_is : lowest_place p ≡ place_by_parts rest over
  unfolding lowest_place common_part divisor_of_two divisor over rest
  place_is = refl

  lowest_factor : (d : ℕ) → d ∣ over → d ∣ (rest + over) → d ≡ 1
  unfolding divisor
  lowest_factor d divides_over divides_both =
      let divides_rest = (dvd-add_iff_left d divides_over).1 divides_both in
      let first : (divisor * d) ∣ p.before = subst (λ (n : ℕ). (divisor * d) ∣ n) before_is (mul-dvd-mul_left d divisor divides_over) in
      let second : (divisor * d) ∣ p.behind = subst (λ (n : ℕ). (divisor * d) ∣ n) behind_is (mul-dvd-mul_left d divisor divides_rest) in
      let both : (divisor * d) ∣ divisor = divides_gcd p.before p.behind (divisor * d) first second in
      let one : divisor ≡ divisor * 1 = omega arith in
      eq-one_of_dvd-one (dvd_of_mul-dvd-mul_left d some_divisor (subst (λ (n : ℕ). (divisor * d) ∣ n) one both))

  pub lowest_is_lowest : IsLowestPlace (lowest_place p)
  lowest_is_lowest = subst IsLowestPlace (sym place_is) (record {
    some = positive divisor over rest before_is behind_is;
    most = omega arith;
    lowest = lowest_factor;
  })
    where
      positive : (g j i : ℕ) → g * j ≡ p.before → g * i ≡ p.behind → 0 < i + j
      positive g zero zero e f = absurd (omega (arith, e, f, some))
      positive g zero (suc i) e f = omega arith
      positive g (suc j) i e f = omega arith

  -- a place comes before it, or after it, as before or after its parts
  pub before_lowest : (q : PlaceOnSegment) → IsEarlierPlace q (place_by_parts p.behind p.before) ↔ IsEarlierPlace q (lowest_place p)
  unfolding divisor
  before_lowest q = subst (λ (r : PlaceOnSegment). IsEarlierPlace q (place_by_parts p.behind p.before) ↔ IsEarlierPlace q r) (sym place_is)
      (subst (λ (b : ℕ). IsEarlierPlace q (place_by_parts p.behind b) ↔ IsEarlierPlace q (place_by_parts rest over)) before_is
      (subst (λ (h : ℕ). IsEarlierPlace q (place_by_parts h (divisor * over)) ↔ IsEarlierPlace q (place_by_parts rest over)) behind_is
      (both divisor over rest some_divisor)))
    where
      both : (g j i : ℕ) → 0 < g → IsEarlierPlace q (place_by_parts (g * i) (g * j)) ↔ IsEarlierPlace q (place_by_parts i j)
      both g j i positive = (
        (λ less. lt_of_mul-lt-mul_left g (omega (arith, less))),
        (λ less. let m : (q.0 * (i + j)) * g < (j * q.1) * g = mul-lt-mul_of_pos_right less positive in omega (arith, m)),
      )

  pub after_lowest : (q : PlaceOnSegment) → IsEarlierPlace (place_by_parts p.behind p.before) q ↔ IsEarlierPlace (lowest_place p) q
  unfolding divisor
  after_lowest q = subst (λ (r : PlaceOnSegment). IsEarlierPlace (place_by_parts p.behind p.before) q ↔ IsEarlierPlace r q) (sym place_is)
      (subst (λ (b : ℕ). IsEarlierPlace (place_by_parts p.behind b) q ↔ IsEarlierPlace (place_by_parts rest over) q) before_is
      (subst (λ (h : ℕ). IsEarlierPlace (place_by_parts h (divisor * over)) q ↔ IsEarlierPlace (place_by_parts rest over) q) behind_is
      (both divisor over rest some_divisor)))
    where
      both : (g j i : ℕ) → 0 < g → IsEarlierPlace (place_by_parts (g * i) (g * j)) q ↔ IsEarlierPlace (place_by_parts i j) q
      both g j i positive = (
        (λ less. lt_of_mul-lt-mul_left g (omega (arith, less))),
        (λ less. let m : (j * q.1) * g < (q.0 * (i + j)) * g = mul-lt-mul_of_pos_right less positive in omega (arith, m)),
      )

-- ---- partings and their places have one order

some_before : (p q : Parting) → IsEarlier p q → 0 < p.before + p.behind
some_before p q less = let s = parts_behind p q less in omega (arith, s)

some_behind : (p q : Parting) → IsEarlier p q → 0 < q.before + q.behind
some_behind p q less = let s = parts_before p q less in omega (arith, s)

pub parts_after_lowest : (p : Parting) (i j : ℕ) → 0 < p.before + p.behind → IsEarlier p (parts i j) ↔ IsEarlierPlace (lowest_place p) (place_by_parts i j)
parts_after_lowest p i j some =
    let here = order_by_parts p.behind p.before i j in
    let lowest = after_lowest p some (place_by_parts i j) in
    ((λ less. lowest.0 (here.0 less)), (λ less. here.1 (lowest.1 less)))

pub parts_before_lowest : (p : Parting) (i j : ℕ) → 0 < p.before + p.behind → IsEarlier (parts i j) p ↔ IsEarlierPlace (place_by_parts i j) (lowest_place p)
parts_before_lowest p i j some =
    let here = order_by_parts i j p.behind p.before in
    let lowest = before_lowest p some (place_by_parts i j) in
    ((λ less. lowest.0 (here.0 less)), (λ less. here.1 (lowest.1 less)))

pub lowest_in_order : (p q : Parting) → IsEarlier p q → IsEarlierPlace (lowest_place p) (lowest_place q)
lowest_in_order p q less =
    (before_lowest q (some_behind p q less) (lowest_place p)).0 ((parts_after_lowest p q.behind q.before (some_before p q less)).0 less)
