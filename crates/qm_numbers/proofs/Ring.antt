-- Identities of sums and products of integers, solved by computing: both sides are written as expressions,
-- multiplied out into terms, and gathered by monomial; the identity holds where every coefficient is 0.
use Rattle.std.proofs.Common.{◌≡◌, ℕ, suc, zero, Bool, true, false, T, ltb, eqb, eqb→eq, ℤ, pos, negsuc, ◌+ℤ◌, ◌-ℤ◌, ◌*ℤ◌, neg_ℤ, List, [], ◌∷◌, ◌++◌, refl, ap, sym, ◌∙◌, arith, subst}
use Rattle.std.proofs.Math.IntN.{*ℤ_comm}
use Rattle.qm_numbers.proofs.IntegerProducts.{linear, *ℤ_assoc, *ℤ_left_comm, *ℤ-+ℤ, +ℤ-*ℤ, neg-*ℤ, *ℤ_one, one_*ℤ, zero_*ℤ}

-- ---- expressions

-- a sum, difference or product of variables and numbers; variables go by their place in a list of values
infixl 6 ◌⊕◌ ◌⊖◌
infixl 7 ◌⊗◌
pub data Expression : Type 0 where
  variable : ℕ → Expression
  number : ℤ → Expression
  ◌⊕◌ : Expression → Expression → Expression
  ◌⊖◌ : Expression → Expression → Expression
  ◌⊗◌ : Expression → Expression → Expression
  negated : Expression → Expression

-- the variable's value
abbrev pub variable_in : List ℤ → ℕ → ℤ
variable_in [] n = pos 0
variable_in (z ∷ zs) zero = z
variable_in (z ∷ zs) (suc n) = variable_in zs n

-- an expression's value
abbrev pub value_of : List ℤ → Expression → ℤ
value_of zs (variable n) = variable_in zs n
value_of zs (number k) = k
value_of zs (a ⊕ b) = value_of zs a +ℤ value_of zs b
value_of zs (a ⊖ b) = value_of zs a -ℤ value_of zs b
value_of zs (a ⊗ b) = value_of zs a *ℤ value_of zs b
value_of zs (negated a) = neg_ℤ (value_of zs a)

-- ---- choices that leave the other side uncomputed

abbrev choose : {A : Type 0} → Bool → (Unit {0} → A) → (Unit {0} → A) → A
choose true here there = here tt
choose false here there = there tt

choose_law : {A : Type 0} (P : A → Type 0) (b : Bool) (here there : Unit {0} → A) → (b ≡ true → P (here tt)) → (b ≡ false → P (there tt)) → P (choose b here there)
choose_law P true here there f g = f refl
choose_law P false here there f g = g refl

-- ---- monomials: the places of the variables multiplied, in order

monomial_value : List ℤ → List ℕ → ℤ
monomial_value zs [] = pos 1
monomial_value zs (v ∷ m) = variable_in zs v *ℤ monomial_value zs m

-- one more variable, put in order
abbrev with_variable : ℕ → List ℕ → List ℕ
with_variable v [] = v ∷ []
with_variable v (w ∷ m) = choose (ltb w v) (λ _. w ∷ with_variable v m) (λ _. v ∷ w ∷ m)

with_variable_value : (zs : List ℤ) (v : ℕ) (m : List ℕ) → monomial_value zs (with_variable v m) ≡ variable_in zs v *ℤ monomial_value zs m
unfolding monomial_value
with_variable_value zs v [] = refl
with_variable_value zs v (w ∷ m) = choose_law (λ n. monomial_value zs n ≡ variable_in zs v *ℤ monomial_value zs (w ∷ m)) (ltb w v) (λ _. w ∷ with_variable v m) (λ _. v ∷ w ∷ m)
    (λ _. ap (λ x. variable_in zs w *ℤ x) (with_variable_value zs v m) ∙ *ℤ_left_comm (variable_in zs w) (variable_in zs v) (monomial_value zs m))
    (λ _. refl)

abbrev monomial_product : List ℕ → List ℕ → List ℕ
monomial_product [] n = n
monomial_product (v ∷ m) n = with_variable v (monomial_product m n)

monomial_product_value : (zs : List ℤ) (m n : List ℕ) → monomial_value zs (monomial_product m n) ≡ monomial_value zs m *ℤ monomial_value zs n
unfolding monomial_value
monomial_product_value zs [] n = sym (one_*ℤ (monomial_value zs n))
monomial_product_value zs (v ∷ m) n =
    with_variable_value zs v (monomial_product m n) ∙ ap (λ x. variable_in zs v *ℤ x) (monomial_product_value zs m n) ∙ sym (*ℤ_assoc (variable_in zs v) (monomial_value zs m) (monomial_value zs n))

-- ---- lists of terms, each a coefficient and a monomial

pub record Term : Type 0 where
  pub coefficient : ℤ
  pub monomial : List ℕ

term_value : List ℤ → Term → ℤ
term_value zs t = t.coefficient *ℤ monomial_value zs t.monomial

terms_value : List ℤ → List Term → ℤ
terms_value zs [] = pos 0
terms_value zs (t ∷ ts) = term_value zs t +ℤ terms_value zs ts

terms_value_append : (zs : List ℤ) (ts us : List Term) → terms_value zs (ts ++ us) ≡ terms_value zs ts +ℤ terms_value zs us
unfolding terms_value
terms_value_append zs [] us = omega (arith, linear)
terms_value_append zs (t ∷ ts) us = let e = terms_value_append zs ts us in omega (arith, linear)

abbrev negated_terms : List Term → List Term
negated_terms [] = []
negated_terms (t ∷ ts) = record { coefficient = neg_ℤ t.coefficient; monomial = t.monomial } ∷ negated_terms ts

negated_terms_value : (zs : List ℤ) (ts : List Term) → terms_value zs (negated_terms ts) ≡ neg_ℤ (terms_value zs ts)
unfolding terms_value term_value
negated_terms_value zs [] = refl
negated_terms_value zs (t ∷ ts) =
    let e = negated_terms_value zs ts in
    let n = neg-*ℤ t.coefficient (monomial_value zs t.monomial) in
    omega (arith, linear)

abbrev term_product : Term → Term → Term
term_product t u = record { coefficient = t.coefficient *ℤ u.coefficient; monomial = monomial_product t.monomial u.monomial }

term_product_value : (zs : List ℤ) (t u : Term) → term_value zs (term_product t u) ≡ term_value zs t *ℤ term_value zs u
unfolding term_value
term_product_value zs t u =
    let a = t.coefficient in let b = u.coefficient in
    let m = monomial_value zs t.monomial in let n = monomial_value zs u.monomial in
    ap (λ x. (a *ℤ b) *ℤ x) (monomial_product_value zs t.monomial u.monomial)
    ∙ *ℤ_assoc a b (m *ℤ n) ∙ ap (λ x. a *ℤ x) (*ℤ_left_comm b m n) ∙ sym (*ℤ_assoc a m (b *ℤ n))

abbrev term_times : Term → List Term → List Term
term_times t [] = []
term_times t (u ∷ us) = term_product t u ∷ term_times t us

term_times_value : (zs : List ℤ) (t : Term) (us : List Term) → terms_value zs (term_times t us) ≡ term_value zs t *ℤ terms_value zs us
unfolding terms_value
term_times_value zs t [] = sym (*ℤ_comm (term_value zs t) (pos 0) ∙ zero_*ℤ (term_value zs t))
term_times_value zs t (u ∷ us) =
    let e = term_times_value zs t us in
    let p = term_product_value zs t u in
    let d = *ℤ-+ℤ (term_value zs t) (term_value zs u) (terms_value zs us) in
    omega (arith, linear)

abbrev terms_product : List Term → List Term → List Term
terms_product [] us = []
terms_product (t ∷ ts) us = term_times t us ++ terms_product ts us

terms_product_value : (zs : List ℤ) (ts us : List Term) → terms_value zs (terms_product ts us) ≡ terms_value zs ts *ℤ terms_value zs us
unfolding terms_value
terms_product_value zs [] us = sym (zero_*ℤ (terms_value zs us))
terms_product_value zs (t ∷ ts) us =
    let e = terms_product_value zs ts us in
    let p = term_times_value zs t us in
    let a = terms_value_append zs (term_times t us) (terms_product ts us) in
    let d = +ℤ-*ℤ (term_value zs t) (terms_value zs ts) (terms_value zs us) in
    omega (arith, linear)

-- an expression, multiplied out
abbrev expanded_terms : Expression → List Term
expanded_terms (variable n) = record { coefficient = pos 1; monomial = n ∷ [] } ∷ []
expanded_terms (number k) = record { coefficient = k; monomial = [] } ∷ []
expanded_terms (a ⊕ b) = expanded_terms a ++ expanded_terms b
expanded_terms (a ⊖ b) = expanded_terms a ++ negated_terms (expanded_terms b)
expanded_terms (a ⊗ b) = terms_product (expanded_terms a) (expanded_terms b)
expanded_terms (negated a) = negated_terms (expanded_terms a)

expanded_value : (zs : List ℤ) (e : Expression) → terms_value zs (expanded_terms e) ≡ value_of zs e
unfolding terms_value term_value monomial_value
expanded_value zs (variable n) = let a = one_*ℤ (variable_in zs n *ℤ pos 1) in let b = *ℤ_one (variable_in zs n) in omega (arith, linear)
expanded_value zs (number k) = let a = *ℤ_one k in omega (arith, linear)
expanded_value zs (a ⊕ b) =
    let s = terms_value_append zs (expanded_terms a) (expanded_terms b) in
    let x = expanded_value zs a in let y = expanded_value zs b in omega (arith, linear)
expanded_value zs (a ⊖ b) =
    let s = terms_value_append zs (expanded_terms a) (negated_terms (expanded_terms b)) in
    let n = negated_terms_value zs (expanded_terms b) in
    let x = expanded_value zs a in let y = expanded_value zs b in omega (arith, linear)
expanded_value zs (a ⊗ b) =
    terms_product_value zs (expanded_terms a) (expanded_terms b)
    ∙ ap (λ x. x *ℤ terms_value zs (expanded_terms b)) (expanded_value zs a)
    ∙ ap (λ x. value_of zs a *ℤ x) (expanded_value zs b)
expanded_value zs (negated a) =
    let n = negated_terms_value zs (expanded_terms a) in
    let x = expanded_value zs a in omega (arith, linear)

-- ---- terms gathered by monomial: a constant, or a variable times one polynomial plus another without it

pub data Polynomial : Type 0 where
  constant : ℤ → Polynomial
  times_plus : ℕ → Polynomial → Polynomial → Polynomial

polynomial_value : List ℤ → Polynomial → ℤ
polynomial_value zs (constant k) = k
polynomial_value zs (times_plus v p q) = (variable_in zs v *ℤ polynomial_value zs p) +ℤ polynomial_value zs q

abbrev one_term : ℤ → List ℕ → Polynomial
one_term c [] = constant c
one_term c (v ∷ m) = times_plus v (one_term c m) (constant (pos 0))

one_term_value : (zs : List ℤ) (c : ℤ) (m : List ℕ) → polynomial_value zs (one_term c m) ≡ c *ℤ monomial_value zs m
unfolding polynomial_value monomial_value
one_term_value zs c [] = sym (*ℤ_one c)
one_term_value zs c (v ∷ m) =
    let e = ap (λ x. variable_in zs v *ℤ x) (one_term_value zs c m) in
    let s = *ℤ_left_comm (variable_in zs v) c (monomial_value zs m) in
    omega (arith, linear)

-- one more term
abbrev with_term : Polynomial → ℤ → List ℕ → Polynomial
with_term (constant k) c [] = constant (c +ℤ k)
with_term (constant k) c (v ∷ m) = times_plus v (one_term c m) (constant k)
with_term (times_plus w p q) c [] = times_plus w p (with_term q c [])
with_term (times_plus w p q) c (v ∷ m) =
    choose (eqb v w) (λ _. times_plus w (with_term p c m) q)
    (λ _. choose (ltb v w) (λ _. times_plus v (one_term c m) (times_plus w p q)) (λ _. times_plus w p (with_term q c (v ∷ m))))

eqb_same : (v w : ℕ) → eqb v w ≡ true → v ≡ w
eqb_same v w e = eqb→eq v w (subst T (sym e) tt)

with_term_value : (zs : List ℤ) (p : Polynomial) (c : ℤ) (m : List ℕ) → polynomial_value zs (with_term p c m) ≡ (c *ℤ monomial_value zs m) +ℤ polynomial_value zs p
unfolding polynomial_value monomial_value
with_term_value zs (constant k) c [] = let e = *ℤ_one c in omega (arith, linear)
with_term_value zs (constant k) c (v ∷ m) =
    let e = ap (λ x. variable_in zs v *ℤ x) (one_term_value zs c m) in
    let s = *ℤ_left_comm (variable_in zs v) c (monomial_value zs m) in
    omega (arith, linear)
with_term_value zs (times_plus w p q) c [] = let e = with_term_value zs q c [] in omega (arith, linear)
with_term_value zs (times_plus w p q) c (v ∷ m) =
    let right : ℤ = (c *ℤ (variable_in zs v *ℤ monomial_value zs m)) +ℤ ((variable_in zs w *ℤ polynomial_value zs p) +ℤ polynomial_value zs q) in
    let s = *ℤ_left_comm (variable_in zs v) c (monomial_value zs m) in
    choose_law (λ t. polynomial_value zs t ≡ right) (eqb v w) (λ _. times_plus w (with_term p c m) q)
    (λ _. choose (ltb v w) (λ _. times_plus v (one_term c m) (times_plus w p q)) (λ _. times_plus w p (with_term q c (v ∷ m))))
    (λ same. let e = with_term_value zs p c m in
    let f = ap (λ x. variable_in zs w *ℤ x) e in
    let d = *ℤ-+ℤ (variable_in zs w) (c *ℤ monomial_value zs m) (polynomial_value zs p) in
    let r = ap (λ x. variable_in zs x *ℤ (c *ℤ monomial_value zs m)) (eqb_same v w same) in
    omega (arith, linear))
    (λ _. choose_law (λ t. polynomial_value zs t ≡ right) (ltb v w) (λ _. times_plus v (one_term c m) (times_plus w p q)) (λ _. times_plus w p (with_term q c (v ∷ m)))
    (λ _. let e = ap (λ x. variable_in zs v *ℤ x) (one_term_value zs c m) in omega (arith, linear))
    (λ _. let e = with_term_value zs q c (v ∷ m) in omega (arith, linear)))

abbrev gathered : List Term → Polynomial
gathered [] = constant (pos 0)
gathered (t ∷ ts) = with_term (gathered ts) t.coefficient t.monomial

gathered_value : (zs : List ℤ) (ts : List Term) → polynomial_value zs (gathered ts) ≡ terms_value zs ts
unfolding polynomial_value terms_value term_value
gathered_value zs [] = refl
gathered_value zs (t ∷ ts) =
    with_term_value zs (gathered ts) t.coefficient t.monomial ∙ ap (λ x. (t.coefficient *ℤ monomial_value zs t.monomial) +ℤ x) (gathered_value zs ts)

-- ---- the test

abbrev both_true : Bool → Bool → Bool
both_true true b = b
both_true false b = false

abbrev all_zero : Polynomial → Bool
all_zero (constant (pos zero)) = true
all_zero (constant (pos (suc n))) = false
all_zero (constant (negsuc n)) = false
all_zero (times_plus v p q) = both_true (all_zero p) (all_zero q)

first_true : (a b : Bool) → T (both_true a b) → T a
first_true true b t = tt
first_true false b t = t

second_true : (a b : Bool) → T (both_true a b) → T b
second_true true b t = t
second_true false b t = absurd t

all_zero_value : (zs : List ℤ) (p : Polynomial) → T (all_zero p) → polynomial_value zs p ≡ pos 0
unfolding polynomial_value
all_zero_value zs (constant (pos zero)) t = refl
all_zero_value zs (constant (pos (suc n))) t = absurd t
all_zero_value zs (constant (negsuc n)) t = absurd t
all_zero_value zs (times_plus v p q) t =
    let e = ap (λ x. variable_in zs v *ℤ x) (all_zero_value zs p (first_true (all_zero p) (all_zero q) t)) ∙ *ℤ_comm (variable_in zs v) (pos 0) ∙ zero_*ℤ (variable_in zs v) in
    let f = all_zero_value zs q (second_true (all_zero p) (all_zero q) t) in
    omega (arith, linear)

-- whether two expressions have one value, whatever the variables stand for
abbrev pub AreIdentical : Expression → Expression → Type 0
AreIdentical a b = T (all_zero (gathered (expanded_terms (a ⊖ b))))

-- An identity: `solved zs a b tt` is `value_of zs a ≡ value_of zs b`, which computes to the statement in the values zs
pub solved : (zs : List ℤ) (a b : Expression) → AreIdentical a b → value_of zs a ≡ value_of zs b
solved zs a b t =
    let e = all_zero_value zs (gathered (expanded_terms (a ⊖ b))) t in
    let g = gathered_value zs (expanded_terms (a ⊖ b)) in
    let v = expanded_value zs (a ⊖ b) in
    omega (arith, linear)

example : (x y : ℤ) → (x +ℤ y) *ℤ (x -ℤ y) ≡ (x *ℤ x) -ℤ (y *ℤ y)
example x y =
    let a = variable 0 in let b = variable 1 in
    solved (x ∷ y ∷ []) ((a ⊕ b) ⊗ (a ⊖ b)) ((a ⊗ a) ⊖ (b ⊗ b)) tt
