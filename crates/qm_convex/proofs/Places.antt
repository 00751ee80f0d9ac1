-- Places in a circle.
use Rattle.std.proofs.Common.{◌≡◌, ℕ, zero, suc, ◌+◌, ◌-◌, ◌<◌, ◌≤◌, cond, ap, ◌∙◌, arith, ⊎_elim}
use Rattle.std.proofs.lemmas.Bool.{cases_eq, cases_lt, eq-eqb, ne_eqb, lt-ltb, le-ltb}
use Rattle.qm_convex.specs.Winding.{next_place}
use Rattle.qm_convex.specs.Rotation.{place_after}

pub next_inner : (n i : ℕ) → suc i < n → next_place n i ≡ suc i
unfolding next_place
next_inner n i h = ap (λ b. cond b 0 (suc i)) (ne_eqb (suc i) n (λ e. omega arith))

pub next_last : (n i : ℕ) → suc i ≡ n → next_place n i ≡ 0
unfolding next_place
next_last n i e = ap (λ b. cond b 0 (suc i)) (eq-eqb (suc i) n e)

-- the place after i is the number after it, or the first
pub by_next : {P : Type 0} (n i : ℕ) → i < n → (suc i < n → next_place n i ≡ suc i → P) → (suc i ≡ n → next_place n i ≡ 0 → P) → P
by_next n i h inner last = ⊎_elim
    (λ e. last e (next_last n i e))
    (λ f. let g : suc i < n = omega (arith, f) in inner g (next_inner n i g))
    (cases_eq (suc i) n)

pub next_below : (n i : ℕ) → i < n → next_place n i < n
next_below n i h = by_next n i h (λ g e. omega arith) (λ g e. omega arith)

-- different places have different places after them
pub next_injective : (n i k : ℕ) → i < n → k < n → next_place n i ≡ next_place n k → i ≡ k
next_injective n i k h l e = by_next n i h
    (λ g x. by_next n k l (λ m y. omega arith) (λ m y. omega arith))
    (λ g x. by_next n k l (λ m y. omega arith) (λ m y. omega arith))

pub next_other : (n i : ℕ) → 2 ≤ n → i < n → next_place n i ≡ i → ⊥
next_other n i t h e = by_next n i h (λ g x. omega arith) (λ g x. omega arith)

pub next_next_other : (n i : ℕ) → 3 ≤ n → i < n → next_place n (next_place n i) ≡ i → ⊥
next_next_other n i t h e = by_next n i h
    (λ g x. by_next n (next_place n i) (next_below n i h) (λ m y. omega arith) (λ m y. omega arith))
    (λ g x. by_next n (next_place n i) (next_below n i h) (λ m y. omega arith) (λ m y. omega arith))

-- the place before the place i
pub place_before : (n i : ℕ) → i < n → (j : ℕ) × (j < n) × (next_place n j ≡ i)
place_before n zero h = (n - 1, omega arith, next_last n (n - 1) (omega arith))
place_before n (suc i) h = (i, omega arith, next_inner n i h)

-- ---- steps round the circle

pub after_inner : (n i k : ℕ) → i + k < n → place_after n i k ≡ i + k
unfolding place_after
after_inner n i k h = ap (λ b. cond b (i + k) ((i + k) - n)) (lt-ltb (i + k) n h)

pub after_outer : (n i k : ℕ) → n ≤ i + k → place_after n i k ≡ (i + k) - n
unfolding place_after
after_outer n i k h = ap (λ b. cond b (i + k) ((i + k) - n)) (le-ltb (i + k) n h)

pub by_after : {P : Type 0} (n i k : ℕ) → (i + k < n → place_after n i k ≡ i + k → P) → (n ≤ i + k → place_after n i k ≡ (i + k) - n → P) → P
by_after n i k inner outer = ⊎_elim (λ h. inner h (after_inner n i k h)) (λ h. outer h (after_outer n i k h)) (cases_lt (i + k) n)

pub after_below : (n i k : ℕ) → i ≤ n → k < n → place_after n i k < n
after_below n i k h l = by_after n i k (λ g e. omega arith) (λ g e. omega arith)

pub after_none : (n i : ℕ) → i < n → place_after n i 0 ≡ i
after_none n i h = by_after n i 0 (λ g e. omega arith) (λ g e. omega arith)

-- the place after, so many steps on, is so many steps after the place after
pub after_next : (n i k : ℕ) → i ≤ n → k < n → place_after n i (next_place n k) ≡ next_place n (place_after n i k)
after_next n i k h l = by_next n k l
    (λ g x. by_after n i k
    (λ m y. by_next n (place_after n i k) (after_below n i k h l)
    (λ o z. ap (place_after n i) x ∙ by_after n i (suc k) (λ p w. omega arith) (λ p w. omega arith))
    (λ o z. ap (place_after n i) x ∙ by_after n i (suc k) (λ p w. omega arith) (λ p w. omega arith)))
    (λ m y. by_next n (place_after n i k) (after_below n i k h l)
    (λ o z. ap (place_after n i) x ∙ by_after n i (suc k) (λ p w. omega arith) (λ p w. omega arith))
    (λ o z. ap (place_after n i) x ∙ by_after n i (suc k) (λ p w. omega arith) (λ p w. omega arith))))
    (λ g x. by_after n i k
    (λ m y. by_next n (place_after n i k) (after_below n i k h l)
    (λ o z. ap (place_after n i) x ∙ by_after n i 0 (λ p w. omega arith) (λ p w. omega arith))
    (λ o z. ap (place_after n i) x ∙ by_after n i 0 (λ p w. omega arith) (λ p w. omega arith)))
    (λ m y. by_next n (place_after n i k) (after_below n i k h l)
    (λ o z. ap (place_after n i) x ∙ by_after n i 0 (λ p w. omega arith) (λ p w. omega arith))
    (λ o z. ap (place_after n i) x ∙ by_after n i 0 (λ p w. omega arith) (λ p w. omega arith))))

pub after_injective : (n i j k : ℕ) → i ≤ n → j < n → k < n → place_after n i j ≡ place_after n i k → j ≡ k
after_injective n i j k h l m e = by_after n i j
    (λ g x. by_after n i k (λ o y. omega arith) (λ o y. omega arith))
    (λ g x. by_after n i k (λ o y. omega arith) (λ o y. omega arith))

-- each place is some steps after the place i
pub steps_to : (n i k : ℕ) → i < n → k < n → (j : ℕ) × (j < n) × (place_after n i j ≡ k)
steps_to n i k h l = ⊎_elim
    (λ g. ((n - i) + k, omega arith, after_outer n i ((n - i) + k) (omega arith) ∙ omega arith))
    (λ g. (k - i, omega arith, after_inner n i (k - i) (omega arith) ∙ omega arith))
    (cases_lt k i)
