-- The order of partings, by cross products.
use Rattle.std.proofs.Common.{◌≡◌, ℕ, zero, suc, ◌*◌, ◌<◌, ◌≤◌, true, false, ◌⊎◌, arith, mul-le-mul}
use Rattle.std.proofs.lemmas.Bool.{ltb-true, ltb-false, lt-ltb, le-ltb, cases_lt}
use Rattle.std.proofs.Math.Nat.{mul-lt-mul_of_pos_right, lt_of_mul-lt-mul_left}
use Rattle.qm_spans.specs.declared.parting.Parting.{Parting}
use Rattle.qm_spans.specs.Partings.{is_earlier}

-- the parting with j parts before it and i parts behind it
abbrev pub parts : (i j : ℕ) → Parting
parts i j = record { before = j; behind = i }

abbrev pub IsEarlier : Parting → Parting → Type 0
IsEarlier p q = p.before * q.behind < q.before * p.behind

abbrev pub IsNotLater : Parting → Parting → Type 0
IsNotLater p q = p.before * q.behind ≤ q.before * p.behind

-- ---- the test

pub earlier_from_test : (p q : Parting) → is_earlier p q ≡ true → IsEarlier p q
earlier_from_test p q test = ltb-true (p.before * q.behind) (q.before * p.behind) test

pub test_from_earlier : (p q : Parting) → IsEarlier p q → is_earlier p q ≡ true
test_from_earlier p q less = lt-ltb (p.before * q.behind) (q.before * p.behind) less

pub not_later_from_test : (p q : Parting) → is_earlier p q ≡ false → IsNotLater q p
not_later_from_test p q test = ltb-false (p.before * q.behind) (q.before * p.behind) test

pub test_from_not_later : (p q : Parting) → IsNotLater q p → is_earlier p q ≡ false
test_from_not_later p q not = le-ltb (p.before * q.behind) (q.before * p.behind) not

pub by_earlier : (p q : Parting) → IsEarlier p q ⊎ IsNotLater q p
by_earlier p q = cases_lt (p.before * q.behind) (q.before * p.behind)

-- ---- what comes before another has parts behind it, and the other has parts before it

some_factor : (n m k : ℕ) → k < m * n → 0 < n
some_factor zero m k less = absurd (omega (arith, less))
some_factor (suc n) m k less = omega arith

pub parts_behind : (p q : Parting) → IsEarlier p q → 0 < p.behind
parts_behind p q less = some_factor p.behind q.before (p.before * q.behind) less

pub parts_before : (p q : Parting) → IsEarlier p q → 0 < q.before
parts_before p q less = some_factor q.before p.behind (p.before * q.behind) (omega (arith, less))

-- ---- one after another

pub not_later_then_earlier : (p q r : Parting) → 0 < p.behind → IsNotLater p q → IsEarlier q r → IsEarlier p r
not_later_then_earlier p q r some first second =
    let s : (p.before * q.behind) * r.behind ≤ (q.before * p.behind) * r.behind = mul-le-mul first (omega arith) in
    let t : (q.before * r.behind) * p.behind < (r.before * q.behind) * p.behind = mul-lt-mul_of_pos_right second some in
    lt_of_mul-lt-mul_left q.behind (omega (arith, s, t))

pub earlier_then_not_later : (p q r : Parting) → 0 < r.before → IsEarlier p q → IsNotLater q r → IsEarlier p r
earlier_then_not_later p q r some first second =
    let s : (p.before * q.behind) * r.before < (q.before * p.behind) * r.before = mul-lt-mul_of_pos_right first some in
    let t : (q.before * r.behind) * p.before ≤ (r.before * q.behind) * p.before = mul-le-mul second (omega arith) in
    lt_of_mul-lt-mul_left q.before (omega (arith, s, t))

pub earlier_then_earlier : (p q r : Parting) → IsEarlier p q → IsEarlier q r → IsEarlier p r
earlier_then_earlier p q r first second = not_later_then_earlier p q r (parts_behind p q first) (omega (arith, first)) second

pub not_earlier_than_itself : (p : Parting) → IsEarlier p p → ⊥
not_earlier_than_itself p less = absurd (omega (arith, less))
