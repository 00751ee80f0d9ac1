use Rattle.std.specs.Prelude.{◌≡◌, ◌⊎◌, ℕ, List, [], ◌∷◌}
use Rattle.qm_space.specs.Point.{Point}
use Rattle.qm_spans.specs.declared.span.Span.{Span}
use Rattle.qm_spans.specs.Place.{PlaceOnSegment, place_by_parts, IsEarlierPlace, point_on}

-- a point of the segment from a to b strictly between two places
pub record IsPointBetween (a b : Point) (from to : PlaceOnSegment) (x : Point) : Type 0 where
  pub i : ℕ
  pub j : ℕ
  pub point_is : x ≡ point_on a b i j
  pub after : IsEarlierPlace from (place_by_parts i j)
  pub before : IsEarlierPlace (place_by_parts i j) to

-- a point strictly within one of the spans that follow one another from a place on, this one
abbrev pub IsWithinSpan : (a b : Point) → (from : PlaceOnSegment) → List Span → Point → Span → Type 0
IsWithinSpan a b from [] x span = ⊥
IsWithinSpan a b from (first ∷ rest) x span = (IsPointBetween a b from first.to x × (first ≡ span)) ⊎ IsWithinSpan a b first.to rest x span
