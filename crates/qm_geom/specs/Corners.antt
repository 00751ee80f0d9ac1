use Rattle.std.specs.Prelude.{ℕ, [], ◌∷◌, slice_index_or, ℤ, pos, negsuc, if◌then◌else◌, ◌<ℤ◌}
use Rattle.qm_numbers.specs.Sign.{is_negative}
use Rattle.qm_space.specs.Point.{Point, point_times, IsSamePlace}
use Rattle.qm_space.specs.Plane.{Plane, IsOn}
use Rattle.qm_space.specs.Meet.{HasMeetSizes}

-- the four numbers of a corner: w is above 0, and none is greater than those of a meeting point
pub record IsCorner (p : Point) : Type 0 where
  pub weight : pos 0 <ℤ p.w
  pub sizes : HasMeetSizes p

-- the three planes meet in this place and in no other
pub record MeetOnlyIn (a b c : Plane) (p : Point) : Type 0 where
  pub weight : pos 0 <ℤ p.w
  pub first : IsOn a p
  pub second : IsOn b p
  pub third : IsOn c p
  pub only : (q : Point) → pos 0 <ℤ q.w → IsOn a q → IsOn b q → IsOn c q → IsSamePlace q p

-- beside this place, which the three planes have in common, they have another one in common
pub record MeetBeside (a b c : Plane) (p : Point) : Type 0 where
  pub other : Point
  pub weight : pos 0 <ℤ other.w
  pub first : IsOn a other
  pub second : IsOn b other
  pub third : IsOn c other
  pub apart : IsSamePlace other p → ⊥

-- the numerator of x, y or z, by the axis
abbrev pub numerator : Point → ℕ → ℤ
numerator p axis = slice_index_or (p.x ∷ p.y ∷ p.z ∷ []) axis (pos 0)

-- the same place, its four numbers negated where w is negative
unfoldable pub with_positive_weight : Point → Point
with_positive_weight p = if is_negative p.w then point_times (negsuc 0) p else p
