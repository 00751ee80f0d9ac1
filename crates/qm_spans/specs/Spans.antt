use Rattle.std.specs.Prelude.{◌≡◌, ◌≢◌, ℕ, ◌<◌, List, [], ◌∷◌, Option, Some, None, All}
use Rattle.qm_space.specs.Point.{Point}
use Rattle.qm_spans.specs.declared.span.Span.{Span}
use Rattle.qm_spans.specs.Place.{PlaceOnSegment, place_by_parts, IsEarlierPlace, IsLowestPlace, point_on}

-- The spans of a segment from a to b, whatever leaf each point has.

-- a span that begins at a place: it ends later, and each point of the segment strictly within it has its leaf
pub record IsSpan (leaf_of : Point → ℕ) (a b : Point) (from : PlaceOnSegment) (span : Span) : Type 0 where
  pub rises : IsEarlierPlace from span.to
  pub place : IsLowestPlace span.to
  pub leaf_is : (i j : ℕ) → IsEarlierPlace from (place_by_parts i j) → IsEarlierPlace (place_by_parts i j) span.to → leaf_of (point_on a b i j) ≡ span.leaf

-- the next span, if there is one, has another leaf
abbrev pub IsOtherThanNext : ℕ → List Span → Type 0
IsOtherThanNext leaf [] = Unit {0}
IsOtherThanNext leaf (next ∷ rest) = leaf ≢ next.leaf

-- spans that follow one another from a place to a place, neighbours with different leaves
abbrev pub AreSpans : (Point → ℕ) → (a b : Point) → (from to : PlaceOnSegment) → List Span → Type 0
AreSpans leaf_of a b from to [] = from ≡ to
AreSpans leaf_of a b from to (span ∷ rest) =
    IsSpan leaf_of a b from span × IsOtherThanNext span.leaf rest × AreSpans leaf_of a b span.to to rest

-- each span names one of so many leaves
abbrev pub AreLeavesThere : ℕ → List Span → Type 0
AreLeavesThere count spans = All (λ span. span.leaf < count) spans

-- what is taken from the front of a list, and what is left of it
abbrev pub TakesFirst : List Span → Option Span → List Span → Type 0
TakesFirst [] taken left = (taken ≡ None) × (left ≡ [])
TakesFirst (first ∷ others) taken left = (taken ≡ Some first) × (left ≡ others)
