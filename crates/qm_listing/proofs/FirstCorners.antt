-- The order of coordinates, and the first of some corners.
use Rattle.std.proofs.Common.{◌≡◌, ◌<◌, ℕ, ◌+◌, Bool, true, false, not, ◌&&◌, ◌||◌, ℤ, ◌<ℤ◌, ◌≤ℤ◌, List, [], ◌∷◌, refl, sym, subst, ◌∙◌, ◌⊎◌, inl, inr, arith}
use Rattle.std.specs.Prelude.{int_lt}
use Rattle.std.proofs.lemmas.Bool.{cases_lt}
use Rattle.qm_numbers.proofs.IntegerProducts.{linear}
use Rattle.qm_listing.specs.declared.listing.Coordinate.{Coordinate}
use Rattle.qm_listing.specs.WorldListing.{come_before}

pub less_true : (x y : ℤ) → int_lt x y ≡ true → x <ℤ y
less_true x y is = grind (arith, is)

pub true_less : (x y : ℤ) → x <ℤ y → int_lt x y ≡ true
true_less x y is = grind (arith, is)

pub less_false : (x y : ℤ) → int_lt x y ≡ false → y ≤ℤ x
less_false x y is = grind (arith, is)

pub false_less : (x y : ℤ) → y ≤ℤ x → int_lt x y ≡ false
false_less x y is = grind (arith, is)

by_test : (b c d : Bool) → (b || (not c && d)) ≡ true → (b ≡ true) ⊎ ((c ≡ false) × (d ≡ true))
by_test true c d is = inl refl
by_test false true d is = absurd cc
by_test false false d is = inr (refl, is)

less_first : (b rest : Bool) → b ≡ true → (b || rest) ≡ true
less_first true rest is = refl
less_first false rest is = absurd cc

same_first : (b c d : Bool) → c ≡ false → d ≡ true → (b || (not c && d)) ≡ true
same_first true c d same behind = refl
same_first false true d same behind = absurd cc
same_first false false d same behind = behind

-- what comes before something that comes before a third comes before the third
before_before : (cs ds es : List Coordinate) → come_before cs ds ≡ true → come_before ds es ≡ true → come_before cs es ≡ true
before_before [] ds es first second = absurd cc
before_before (c ∷ cs) [] es first second = absurd cc
before_before (c ∷ cs) (d ∷ ds) [] first second = absurd cc
before_before (c ∷ cs) (d ∷ ds) (e ∷ es) first second =
    let x = c.millionths in
    let y = d.millionths in
    let z = e.millionths in
    elim (by_test (int_lt x y) (int_lt y x) (come_before cs ds) first) [
      | inl less ↦ elim (by_test (int_lt y z) (int_lt z y) (come_before ds es) second) [
        | inl more ↦ less_first (int_lt x z) (not (int_lt z x) && come_before cs es) (true_less x z (let p = less_true x y less in let q = less_true y z more in omega (arith, linear)))
        | inr same ↦ less_first (int_lt x z) (not (int_lt z x) && come_before cs es) (true_less x z (let p = less_true x y less in let q = less_false z y same.0 in omega (arith, linear)))
      ]
      | inr at_most ↦ elim (by_test (int_lt y z) (int_lt z y) (come_before ds es) second) [
        | inl more ↦ less_first (int_lt x z) (not (int_lt z x) && come_before cs es) (true_less x z (let p = less_false y x at_most.0 in let q = less_true y z more in omega (arith, linear)))
        | inr same ↦
            same_first (int_lt x z) (int_lt z x) (come_before cs es) (false_less z x (let p = less_false y x at_most.0 in let q = less_false z y same.0 in omega (arith, linear))) (before_before cs ds es at_most.1 same.1)
      ]
    ]

not_less_self : (b d : Bool) → b ≡ false → d ≡ false → (b || (not b && d)) ≡ false
not_less_self true d none behind = absurd cc
not_less_self false d none behind = behind

not_before_self : (cs : List Coordinate) → come_before cs cs ≡ false
not_before_self [] = refl
not_before_self (c ∷ cs) = not_less_self (int_lt c.millionths c.millionths) (come_before cs cs) (false_less c.millionths c.millionths (omega (arith, linear))) (not_before_self cs)

unless_true : (b : Bool) → (b ≡ true → ⊥) → b ≡ false
unless_true true never = absurd (never refl)
unless_true false never = refl

opposite : (b : Bool) → b ≡ true → b ≡ false → ⊥
opposite b is other = let e : true ≡ false = sym is ∙ other in absurd cc

module _ (place : ℕ → List Coordinate) (first i : ℕ) where
  -- none of the places below i comes before it
  abbrev pub IsFirstBelow : Type 0
  IsFirstBelow = (k : ℕ) → k < i → come_before (place k) (place first) ≡ false

  up_to : (k : ℕ) → k < i + 1 → (k < i) ⊎ (k ≡ i)
  up_to k less = elim (cases_lt k i) [ inl below ↦ inl below | inr past ↦ inr (omega (arith, less, past)) ]

  pub first_kept : IsFirstBelow → come_before (place i) (place first) ≡ false → (k : ℕ) → k < i + 1 → come_before (place k) (place first) ≡ false
  first_kept so_far none k less =
      elim (up_to k less) [
        | inl below ↦ so_far k below
        | inr same ↦ subst (λ (n : ℕ). come_before (place n) (place first) ≡ false) (sym same) none
      ]

  pub first_found : IsFirstBelow → come_before (place i) (place first) ≡ true → (k : ℕ) → k < i + 1 → come_before (place k) (place i) ≡ false
  first_found so_far before k less =
      elim (up_to k less) [
        | inl below ↦ unless_true (come_before (place k) (place i)) (λ is. opposite (come_before (place k) (place first)) (before_before (place k) (place i) (place first) is before) (so_far k below))
        | inr same ↦ subst (λ (n : ℕ). come_before (place n) (place i) ≡ false) (sym same) (not_before_self (place i))
      ]
