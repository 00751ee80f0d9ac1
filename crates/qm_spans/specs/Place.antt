use Rattle.std.specs.Prelude.{◌≡◌, ℕ, ◌+◌, ◌*◌, ◌<◌, ◌≤◌, pos}
use Rattle.std.specs.Int.{◌∣◌}
use Rattle.qm_space.specs.Point.{Point, point_sum, point_times}

-- A segment goes from a point a to a point b. Its points are i * a + j * b, and where a and b have the same w, such a point
-- has gone j parts of i + j: its place is the fraction j / (i + j) of the segment's length.

-- the point that has the start i times and the end j times
abbrev pub point_on : (a b : Point) → (i j : ℕ) → Point
point_on a b i j = point_sum (point_times (pos i) a) (point_times (pos j) b)

-- a place as a fraction, over and under: 0 over 1 is the start, and 1 over 1 is the end
abbrev pub PlaceOnSegment : Type 0
PlaceOnSegment = ℕ × ℕ

abbrev pub start_place : PlaceOnSegment
start_place = (0, 1)

abbrev pub end_place : PlaceOnSegment
end_place = (1, 1)

-- the place that has j parts before it and i parts behind it
abbrev pub place_by_parts : (i j : ℕ) → PlaceOnSegment
place_by_parts i j = (j, i + j)

-- places are compared by the cross products
abbrev pub IsEarlierPlace : PlaceOnSegment → PlaceOnSegment → Type 0
IsEarlierPlace p q = p.0 * q.1 < q.0 * p.1

-- a place on the segment in lowest terms
pub record IsLowestPlace (p : PlaceOnSegment) : Type 0 where
  pub some : 0 < p.1
  pub most : p.0 ≤ p.1
  pub lowest : (d : ℕ) → d ∣ p.0 → d ∣ p.1 → d ≡ 1
