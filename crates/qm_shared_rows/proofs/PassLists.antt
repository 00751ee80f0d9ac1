-- Lists of passes: one becomes another, and what they have drawn.
use Rattle.std.proofs.Common.{◌≡◌, ◌≢◌, ◌⊎◌, inl, inr, ⊎_elim, ℕ, zero, suc, ◌+◌, Bool, List, [], ◌∷◌, ◌++◌, ◌==◌, get_or, set, Some, None, slice_get, cond, eq-eqb, ne_eqb, refl, ap, subst, arith}
use Rattle.std.specs.List.{sum_by, count_by}
use Rattle.std.proofs.lemmas.Option.{slice_get_within, get_or_from_slice_get}
use Rattle.std.proofs.lemmas.List.Sums.{sum_by-set, sum_by-cons, sum_by-append}

module _ {X : Type 0} where
  pub set_cases : (xs : List X) (i j : ℕ) (new x : X) → slice_get (set xs i new) j ≡ Some x → ((j ≡ i) × (new ≡ x)) ⊎ ((j ≢ i) × (slice_get xs j ≡ Some x))
  set_cases [] i j new x is = absurd (let e : None ≡ Some x = is in cc)
  set_cases (y ∷ ys) zero zero new x is = inl (refl, (let e : Some new ≡ Some x = is in cc))
  set_cases (y ∷ ys) zero (suc j) new x is = inr ((λ same. omega (arith, same)), is)
  set_cases (y ∷ ys) (suc i) zero new x is = inr ((λ same. omega (arith, same)), is)
  set_cases (y ∷ ys) (suc i) (suc j) new x is = ⊎_elim
      (λ same. inl (ap suc same.0, same.1))
      (λ other. inr ((λ same. other.0 (omega (arith, same))), other.1))
      (set_cases ys i j new x is)

  pub set_get_other : (xs : List X) (i j : ℕ) (new x : X) → j ≢ i → slice_get xs j ≡ Some x → slice_get (set xs i new) j ≡ Some x
  set_get_other [] i j new x other is = is
  set_get_other (y ∷ ys) zero zero new x other is = absurd (other refl)
  set_get_other (y ∷ ys) zero (suc j) new x other is = is
  set_get_other (y ∷ ys) (suc i) zero new x other is = is
  set_get_other (y ∷ ys) (suc i) (suc j) new x other is = set_get_other ys i j new x (λ same. other (ap suc same)) is

  module _ (f : X → ℕ) where
    -- a sum over a list of which one element becomes another
    pub sum_becomes : (xs : List X) (i : ℕ) (old new : X) → slice_get xs i ≡ Some old → sum_by f (set xs i new) + f old ≡ sum_by f xs + f new
    sum_becomes xs i old new is =
        let was : get_or xs i old ≡ old = get_or_from_slice_get xs i old old is in
        subst (λ (x : X). sum_by f (set xs i new) + f x ≡ sum_by f xs + f new) was (sum_by-set f xs i new old (slice_get_within xs i old is))

    pub sum_stays : (xs : List X) (i : ℕ) (old new : X) → slice_get xs i ≡ Some old → f new ≡ f old → sum_by f (set xs i new) ≡ sum_by f xs
    sum_stays xs i old new is same = let both = sum_becomes xs i old new is in omega (arith, both, same)

    -- two elements become their sum and nothing
    pub sum_joins : (xs : List X) (i j : ℕ) (x y both none : X) → slice_get xs i ≡ Some x → j ≢ i → slice_get xs j ≡ Some y → f both ≡ f x + f y → f none ≡ 0 →
        sum_by f (set (set xs i both) j none) ≡ sum_by f xs
    sum_joins xs i j x y both none is_x other is_y sum nothing =
        let first = sum_becomes xs i x both is_x in
        let second = sum_becomes (set xs i both) j y none (set_get_other xs i j both y other is_y) in
        omega (arith, first, second, sum, nothing)

pub count-append : {X : Type 0} (test : X → Bool) (xs ys : List X) → count_by test (xs ++ ys) ≡ count_by test xs + count_by test ys
count-append test xs ys = sum_by-append (λ x. cond (test x) 1 0) xs ys

-- how many times a number stands in a list with one number more
pub count_same : (n : ℕ) (xs : List ℕ) → count_by (λ m. m == n) (n ∷ xs) ≡ count_by (λ m. m == n) xs + 1
count_same n xs =
    let sum = sum_by-cons (λ m. cond (m == n) 1 0) n xs in
    let unit : ℕ = 1 in
    let one : cond (n == n) unit 0 ≡ unit = ap (λ (b : Bool). cond b unit 0) (eq-eqb n n refl) in
    omega (arith, sum, one)

pub count_other : (n m : ℕ) (xs : List ℕ) → m ≢ n → count_by (λ k. k == n) (m ∷ xs) ≡ count_by (λ k. k == n) xs
count_other n m xs other =
    let sum = sum_by-cons (λ k. cond (k == n) 1 0) m xs in
    let unit : ℕ = 1 in
    let none : cond (m == n) unit 0 ≡ 0 = ap (λ (b : Bool). cond b unit 0) (ne_eqb m n other) in
    omega (arith, sum, none)
