-- A corner with a property is sought from the first corner on.
use Rattle.std.proofs.Common.{◌≡◌, ◌<◌, ◌≤◌, ◌+◌, ℕ, Bool, true, false, length, refl, sym, subst, ◌∙◌, arith, ⊎_elim}
use Rattle.std.specs.Prelude.{IsTrue, ◌↔◌}
use Rattle.std.proofs.lemmas.Bool.{cases_eq}
use Rattle.qm_space.specs.Point.{Point}
use Rattle.qm_convex.specs.Winding.{Winding, corner_at}

module _ (v : Winding) (Has : Point → Type 0) where
  -- none before a place has it
  abbrev pub NoneBefore : ℕ → Type 0
  NoneBefore i = (k : ℕ) → k < i → Has (corner_at v k) → ⊥

  -- some corner has it
  abbrev pub SomeCorner : Type 0
  SomeCorner = (i : ℕ) × (i < length v.edges) × Has (corner_at v i)

  pub none_before_first : NoneBefore 0
  none_before_first k l = absurd (omega (arith, l))

  module _ (i : ℕ) where
    pub none_before_next : {corner : Point} {answer : Bool} → corner ≡ corner_at v i → (IsTrue answer ↔ Has corner) → answer ≡ false → NoneBefore i → NoneBefore (i + 1)
    none_before_next corner_is asked not none k l has = ⊎_elim
        (λ same. let is = asked.1 (subst Has (sym corner_is) (subst (λ (n : ℕ). Has (corner_at v n)) same has)) in let never : false ≡ true = sym not ∙ is in cc)
        (λ other. none k (omega (arith, l, other)) has)
        (cases_eq k i)

    module _ (count : ℕ) (count_is : count ≡ length v.edges) where
      pub found_here : {corner : Point} {answer : Bool} → corner ≡ corner_at v i → (IsTrue answer ↔ Has corner) → i < count → answer ≡ true → IsTrue true ↔ SomeCorner
      found_here corner_is asked l is = ((λ _. (i, subst (λ (n : ℕ). i < n) count_is l, subst Has corner_is (asked.0 is))), (λ _. refl))

      pub found_nowhere : count ≤ i → NoneBefore i → IsTrue false ↔ SomeCorner
      found_nowhere end none = (
        (λ is. let never : false ≡ true = is in cc),
        (λ some. absurd (none some.0 (let b = some.1 in omega (arith, end, b, count_is)) some.2)),
      )
