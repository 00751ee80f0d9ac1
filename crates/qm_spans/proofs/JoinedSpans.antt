-- Spans up to a place, and spans from there on.
use Rattle.std.proofs.Common.{◌≢◌, ℕ, List, [], ◌∷◌, ◌++◌, sym, subst}
use Rattle.std.specs.List.{AllByRecursion}
use Rattle.qm_space.specs.Point.{Point}
use Rattle.qm_spans.specs.declared.span.Span.{Span}
use Rattle.qm_spans.specs.Place.{PlaceOnSegment}
use Rattle.qm_spans.specs.Spans.{IsOtherThanNext, AreSpans}

-- no leaf of the one list is a leaf of the other
abbrev pub AreApart : List Span → List Span → Type 0
AreApart xs ys = AllByRecursion (λ x. AllByRecursion (λ y. x.leaf ≢ y.leaf) ys) xs

module _ (leaf_of : Point → ℕ) (a b : Point) where
  other_than_next : (leaf : ℕ) (xs ys : List Span) → IsOtherThanNext leaf xs → AllByRecursion (λ y. leaf ≢ y.leaf) ys → IsOtherThanNext leaf (xs ++ ys)
  other_than_next leaf [] [] other apart = tt
  other_than_next leaf [] (y ∷ ys) other apart = apart.0
  other_than_next leaf (x ∷ xs) ys other apart = other

  pub joined_spans : (from mid to : PlaceOnSegment) (xs ys : List Span) → AreApart xs ys → AreSpans leaf_of a b from mid xs → AreSpans leaf_of a b mid to ys → AreSpans leaf_of a b from to (xs ++ ys)
  joined_spans from mid to [] ys apart first second = subst (λ (p : PlaceOnSegment). AreSpans leaf_of a b p to ys) (sym first) second
  joined_spans from mid to (x ∷ xs) ys apart first second =
      (first.0, other_than_next x.leaf xs ys first.1 apart.0, joined_spans x.to mid to xs ys apart.1 first.2 second)
