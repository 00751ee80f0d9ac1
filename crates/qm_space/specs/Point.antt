use Rattle.std.specs.Prelude.{◌≡◌, ℤ, pos, neg_ℤ, ◌+ℤ◌, ◌*ℤ◌, ◌<ℤ◌, ◌≤ℤ◌, List, slice_index_or, All}
use Rattle.qm_space.specs.Bounds.{extent, thousandths_extent}

-- four whole numbers with w above 0 stand for the point (x / w, y / w, z / w)
pub record Point : Type 0 where
  pub x : ℤ
  pub y : ℤ
  pub z : ℤ
  pub w : ℤ

-- the four numbers added, one by one
abbrev pub point_sum : Point → Point → Point
point_sum p q = record { x = p.x +ℤ q.x; y = p.y +ℤ q.y; z = p.z +ℤ q.z; w = p.w +ℤ q.w }

-- each number times k; for k above 0 the same place in space
abbrev pub point_times : ℤ → Point → Point
point_times k p = record { x = k *ℤ p.x; y = k *ℤ p.y; z = k *ℤ p.z; w = k *ℤ p.w }

-- two points of w above 0 stand for one place: each, times the w of the other, is the same
abbrev pub IsSamePlace : Point → Point → Type 0
IsSamePlace p q = point_times q.w p ≡ point_times p.w q

-- the point of three whole coordinates
abbrev pub whole_point : List ℤ → Point
whole_point at =
    record { x = slice_index_or at 0 (pos 0); y = slice_index_or at 1 (pos 0); z = slice_index_or at 2 (pos 0); w = pos 1 }

-- the point of three coordinates in thousandths of a map unit
abbrev pub thousandths_point : List ℤ → Point
thousandths_point at =
    record { x = slice_index_or at 0 (pos 0); y = slice_index_or at 1 (pos 0); z = slice_index_or at 2 (pos 0); w = pos 1000 }

-- strictly between the cube's two faces across one axis
pub record IsWithinExtent (coordinate w : ℤ) : Type 0 where
  pub above : neg_ℤ (extent *ℤ w) <ℤ coordinate
  pub below : coordinate <ℤ (extent *ℤ w)

-- a point strictly inside the world's cube
pub record IsInCube (p : Point) : Type 0 where
  pub weight : pos 0 <ℤ p.w
  pub x : IsWithinExtent p.x p.w
  pub y : IsWithinExtent p.y p.w
  pub z : IsWithinExtent p.z p.w

-- a whole coordinate in the closed cube
pub record IsCoordinate (c : ℤ) : Type 0 where
  pub low : neg_ℤ extent ≤ℤ c
  pub high : c ≤ℤ extent

-- three whole coordinates in the closed cube
abbrev pub AreCoordinates : List ℤ → Type 0
AreCoordinates at = All IsCoordinate at

-- a coordinate in thousandths, in the closed cube
pub record IsThousandths (c : ℤ) : Type 0 where
  pub low : neg_ℤ thousandths_extent ≤ℤ c
  pub high : c ≤ℤ thousandths_extent

-- three coordinates in thousandths, in the closed cube
abbrev pub AreThousandths : List ℤ → Type 0
AreThousandths at = All IsThousandths at

-- a point of three whole coordinates in the closed cube
pub record IsWholePoint (p : Point) : Type 0 where
  pub x : IsCoordinate p.x
  pub y : IsCoordinate p.y
  pub z : IsCoordinate p.z
  pub weight : p.w ≡ pos 1
