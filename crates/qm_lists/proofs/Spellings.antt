-- Each row has one spelling in runs, and no spelling begins another of the same width.
use Rattle.std.proofs.Common.{◌≡◌, ◌≢◌, ◌<◌, ◌≤◌, Some, None, drop, ℕ, zero, suc, ◌+◌, Bool, cond, List, [], ◌∷◌, ◌++◌, replicate, add-one, refl, sym, ap, subst, ◌∙◌, arith, inl, inr}
use Rattle.std.proofs.lemmas.Bool.{cases_order, cases_eq, eq-eqb, ne_eqb}
use Rattle.std.proofs.lemmas.List.{append_cancel_left}
use Rattle.std.specs.List.{slice_get}
use Rattle.qm_lists.specs.Spelling.{BeginsNonzero, SpellsRow, zero_before, runs_of}

zero_through : (n : ℕ) (rest : List ℕ) → zero ∷ (replicate n zero ++ rest) ≡ replicate n zero ++ zero ∷ rest
zero_through zero rest = refl
zero_through (suc n) rest = ap (λ (xs : List ℕ). zero ∷ xs) (zero_through n rest)

-- what is spelt is spelt with a zero in front
spells_zero_before : (bytes row : List ℕ) → SpellsRow bytes row → SpellsRow (zero_before bytes) (zero ∷ row)
spells_zero_before [] row h = (row, refl, omega arith, omega arith, λ _. subst BeginsNonzero (sym h) tt, h)
spells_zero_before (suc byte ∷ bytes) row h = (row, refl, omega arith, omega arith, λ _. subst BeginsNonzero (sym h.1) tt, h)
spells_zero_before (zero ∷ []) row h = absurd h
spells_zero_before (zero ∷ count ∷ bytes) row h =
    elim (cases_eq count 255) [
      | inl full ↦
          let behind : SpellsRow (zero ∷ count ∷ zero_before bytes) (zero ∷ row) =
          (zero ∷ h.0, ap (λ (xs : List ℕ). zero ∷ xs) h.1 ∙ zero_through count h.0, h.2, h.3, λ less. absurd (omega (arith, less, full)), spells_zero_before bytes h.0 h.5) in
          subst (λ (b : Bool). SpellsRow (cond b (zero ∷ count ∷ zero_before bytes) (zero ∷ (count + 1) ∷ bytes)) (zero ∷ row)) (sym (eq-eqb count 255 full)) behind
      | inr other ↦
          let longer : SpellsRow (zero ∷ (count + 1) ∷ bytes) (zero ∷ row) =
          (h.0, ap (λ (xs : List ℕ). zero ∷ xs) h.1 ∙ sym (ap (λ (n : ℕ). replicate n zero ++ h.0) (add-one count)), omega arith, omega (arith, h.3, other), λ less. h.4 (omega arith), h.5) in
          subst (λ (b : Bool). SpellsRow (cond b (zero ∷ count ∷ zero_before bytes) (zero ∷ (count + 1) ∷ bytes)) (zero ∷ row)) (sym (ne_eqb count 255 other)) longer
    ]

pub spells_runs_of : (row : List ℕ) → SpellsRow (runs_of row) row
unfolding runs_of
spells_runs_of [] = refl
spells_runs_of (zero ∷ row) = spells_zero_before (runs_of row) row (spells_runs_of row)
spells_runs_of (suc byte ∷ row) = (row, refl, spells_runs_of row)

-- a run that is longer than another leaves a zero behind it
longer_run : (m n : ℕ) (x y : List ℕ) → n < m → replicate m zero ++ x ≡ replicate n zero ++ y → BeginsNonzero y → ⊥
longer_run zero n x y less same begins = absurd (omega arith)
longer_run (suc m) zero x y less same begins = subst BeginsNonzero (sym same) begins
longer_run (suc m) (suc n) x y less same begins =
    let behind : replicate m zero ++ x ≡ replicate n zero ++ y = cc same in
    longer_run m n x y (omega arith) behind begins

-- runs that are as long as possible are as long as one another
same_run : (m n : ℕ) (x y : List ℕ) → m ≤ 255 → n ≤ 255 → (m < 255 → BeginsNonzero x) → (n < 255 → BeginsNonzero y) → replicate m zero ++ x ≡ replicate n zero ++ y → (m ≡ n) × (x ≡ y)
same_run m n x y small small' longest longest' same =
    elim (cases_order m n) [
      | inl equal ↦ (equal, append_cancel_left (replicate n zero) x y (subst (λ (k : ℕ). replicate k zero ++ x ≡ replicate n zero ++ y) equal same))
      | inr other ↦ elim other [
        | inl less ↦ absurd (longer_run n m y x less (sym same) (longest (omega arith)))
        | inr more ↦ absurd (longer_run m n x y more same (longest' (omega arith)))
      ]
    ]

-- a run is not empty
no_empty_run : (n : ℕ) (row rest : List ℕ) → 0 < n → row ≡ replicate n zero ++ rest → row ≡ [] → ⊥
no_empty_run zero row rest some is none = absurd (omega arith)
no_empty_run (suc n) row rest some is none = absurd (let e : zero ∷ (replicate n zero ++ rest) ≡ [] = sym is ∙ none in cc)

no_run_of_others : (n byte : ℕ) (row rest more : List ℕ) → 0 < n → row ≡ replicate n zero ++ rest → row ≡ suc byte ∷ more → ⊥
no_run_of_others zero byte row rest more some is other = absurd (omega arith)
no_run_of_others (suc n) byte row rest more some is other = absurd (let e : zero ∷ (replicate n zero ++ rest) ≡ suc byte ∷ more = sym is ∙ other in cc)

pub one_spelling : (a b row : List ℕ) → SpellsRow a row → SpellsRow b row → a ≡ b
one_spelling [] [] row of_a of_b = refl
one_spelling [] (suc byte ∷ b) row of_a of_b = absurd (let e = sym of_a ∙ of_b.1 in cc)
one_spelling [] (zero ∷ []) row of_a of_b = absurd of_b
one_spelling [] (zero ∷ n ∷ b) row of_a of_b = absurd (no_empty_run n row of_b.0 of_b.2 of_b.1 of_a)
one_spelling (suc byte ∷ a) [] row of_a of_b = absurd (let e = sym of_b ∙ of_a.1 in cc)
one_spelling (suc byte ∷ a) (suc other ∷ b) row of_a of_b =
    let e = sym of_a.1 ∙ of_b.1 in
    let same : of_a.0 ≡ of_b.0 = cc in
    let first : suc byte ≡ suc other = cc in
    let behind = one_spelling a b of_a.0 of_a.2 (subst (SpellsRow b) (sym same) of_b.2) in
    cc
one_spelling (suc byte ∷ a) (zero ∷ []) row of_a of_b = absurd of_b
one_spelling (suc byte ∷ a) (zero ∷ n ∷ b) row of_a of_b = absurd (no_run_of_others n byte row of_b.0 of_a.0 of_b.2 of_b.1 of_a.1)
one_spelling (zero ∷ []) b row of_a of_b = absurd of_a
one_spelling (zero ∷ n ∷ a) [] row of_a of_b = absurd (no_empty_run n row of_a.0 of_a.2 of_a.1 of_b)
one_spelling (zero ∷ n ∷ a) (suc byte ∷ b) row of_a of_b = absurd (no_run_of_others n byte row of_a.0 of_b.0 of_a.2 of_a.1 of_b.1)
one_spelling (zero ∷ n ∷ a) (zero ∷ []) row of_a of_b = absurd of_b
one_spelling (zero ∷ n ∷ a) (zero ∷ m ∷ b) row of_a of_b =
    let same = same_run n m of_a.0 of_b.0 of_a.3 of_b.3 of_a.4 of_b.4 (sym of_a.1 ∙ of_b.1) in
    let behind = one_spelling a b of_a.0 of_a.5 (subst (SpellsRow b) (sym same.1) of_b.5) in
    let counts = same.0 in
    cc

pub runs_of-spelt : (bytes row : List ℕ) → SpellsRow bytes row → bytes ≡ runs_of row
runs_of-spelt bytes row h = one_spelling bytes (runs_of row) row h (spells_runs_of row)

-- a run in front of a row
pub runs_of-run : (n : ℕ) (rest : List ℕ) → 0 < n → n ≤ 255 → (n < 255 → BeginsNonzero rest) → runs_of (replicate n zero ++ rest) ≡ zero ∷ n ∷ runs_of rest
runs_of-run n rest some small longest =
    sym (runs_of-spelt (zero ∷ n ∷ runs_of rest) (replicate n zero ++ rest) (rest, refl, some, small, longest, spells_runs_of rest))

-- one step of writing a row: a byte that is not zero
pub runs_of-byte : (row : List ℕ) (byte : ℕ) → slice_get row 0 ≡ Some byte → byte ≢ 0 → runs_of row ≡ byte ∷ runs_of (drop 1 row)
unfolding runs_of
runs_of-byte [] byte first other = absurd cc
runs_of-byte (zero ∷ row) byte first other = absurd (let e : Some zero ≡ Some byte = first in other (cc))
runs_of-byte (suc x ∷ row) byte first other = let e : Some (suc x) ≡ Some byte = first in cc

-- or the zeros that it begins with
pub runs_of-zeros : (row : List ℕ) (n : ℕ) → slice_get row 0 ≡ Some 0 → row ≡ replicate n zero ++ drop n row → n ≤ 255 → (n < 255 → BeginsNonzero (drop n row)) → runs_of row ≡ zero ∷ n ∷ runs_of (drop n row)
runs_of-zeros row zero first is small longest = absurd (zero_first row first (longest (omega arith)))
  where
    zero_first : (row : List ℕ) → slice_get row 0 ≡ Some 0 → BeginsNonzero row → ⊥
    zero_first [] first begins = cc
    zero_first (zero ∷ row) first begins = begins
    zero_first (suc x ∷ row) first begins = let e : Some (suc x) ≡ Some 0 = first in cc
runs_of-zeros row (suc n) first is small longest = ap runs_of is ∙ runs_of-run (suc n) (drop (suc n) row) (omega arith) small longest

pub runs_of-none : (row : List ℕ) → slice_get row 0 ≡ None → runs_of row ≡ []
unfolding runs_of
runs_of-none [] none = refl
runs_of-none (x ∷ row) none = absurd (let e : Some x ≡ None = none in cc)
