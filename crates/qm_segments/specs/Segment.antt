use Rattle.std.specs.Prelude.{◌≡◌, ◌⊎◌}
use Rattle.qm_space.specs.Point.{Point}
use Rattle.qm_space.specs.Line.{IsBetween}

-- Segments without fractions: what lies between two points has a multiple that is the sum of multiples of both.

-- a segment, from one point to another
pub record Segment : Type 0 where
  pub from : Point
  pub to : Point

-- the same segment from its other end
abbrev pub turned_round : Segment → Segment
turned_round s = record { from = s.to; to = s.from }

-- a point of the segment: one of its ends, or strictly between them
abbrev pub IsOnSegment : Segment → Point → Type 0
IsOnSegment s x = (x ≡ s.from) ⊎ ((x ≡ s.to) ⊎ IsBetween x s.from s.to)
