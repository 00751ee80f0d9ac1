use Rattle.std.specs.Prelude.{◌≡◌, ℤ, pos, ◌<ℤ◌}
use Rattle.qm_space.specs.Point.{Point, point_sum, point_times}

-- four zeros: what multiples of points may add up to
abbrev pub four_zeros : Point
four_zeros = record { x = pos 0; y = pos 0; z = pos 0; w = pos 0 }

-- three points lie on one line: multiples of them, not all 0, add up to four zeros
pub record AreOnOneLine (p q r : Point) : Type 0 where
  pub times_p : ℤ
  pub times_q : ℤ
  pub times_r : ℤ
  pub some : (times_p ≡ pos 0 → times_q ≡ pos 0 → times_r ≡ pos 0 → ⊥)
  pub sum : point_sum (point_sum (point_times times_p p) (point_times times_q q)) (point_times times_r r) ≡ four_zeros

-- the point p lies strictly between q and r: a multiple of it is the sum of multiples of both, each multiple positive
pub record IsBetween (p q r : Point) : Type 0 where
  pub times_p : ℤ
  pub times_q : ℤ
  pub times_r : ℤ
  pub some_p : pos 0 <ℤ times_p
  pub some_q : pos 0 <ℤ times_q
  pub some_r : pos 0 <ℤ times_r
  pub sum : point_times times_p p ≡ point_sum (point_times times_q q) (point_times times_r r)
