use Rattle.std.specs.Prelude.{ℤ, pos, neg_ℤ, ◌-ℤ◌, ◌*ℤ◌, ◌<ℤ◌, ◌≤ℤ◌, List, slice_index_or, All}
use Rattle.qm_space.specs.Point.{Point}
use Rattle.qm_space.specs.Cuboid.{Cuboid, IsInCuboid}

-- Moving boxes, by the point that they are set at.

-- how far a box reaches to each side at most
abbrev pub box_bound : ℤ
box_bound = pos 64

-- a low end of a box
pub record IsLowEnd (c : ℤ) : Type 0 where
  pub low : neg_ℤ box_bound ≤ℤ c
  pub high : c ≤ℤ pos 0

-- a high end of a box
pub record IsHighEnd (c : ℤ) : Type 0 where
  pub low : pos 0 ≤ℤ c
  pub high : c ≤ℤ box_bound

abbrev pub AreLowEnds : List ℤ → Type 0
AreLowEnds lo = All IsLowEnd lo

abbrev pub AreHighEnds : List ℤ → Type 0
AreHighEnds hi = All IsHighEnd hi

-- the box from one corner to the opposite one
abbrev pub box_between : List ℤ → List ℤ → Cuboid
box_between lo hi = record {
  x = record { low = slice_index_or lo 0 (pos 0); high = slice_index_or hi 0 (pos 0) };
  y = record { low = slice_index_or lo 1 (pos 0); high = slice_index_or hi 1 (pos 0) };
  z = record { low = slice_index_or lo 2 (pos 0); high = slice_index_or hi 2 (pos 0) };
}

-- the way from one point to another, as a point
abbrev pub way_between : Point → Point → Point
way_between x q = record {
  x = (q.x *ℤ x.w) -ℤ (x.x *ℤ q.w);
  y = (q.y *ℤ x.w) -ℤ (x.y *ℤ q.w);
  z = (q.z *ℤ x.w) -ℤ (x.z *ℤ q.w);
  w = x.w *ℤ q.w;
}

-- a point of the box that is set at another one
pub record IsInBoxAt (box : Cuboid) (x q : Point) : Type 0 where
  pub set_weight : pos 0 <ℤ x.w
  pub weight : pos 0 <ℤ q.w
  pub within : IsInCuboid box (way_between x q)
