use Rattle.std.specs.Prelude.{ℕ, ◌≤◌, unsigned_abs, List, All}
use Rattle.qm_space.specs.Bounds.{world_extent, cube_distance_bound}
use Rattle.qm_space.specs.Point.{Point, IsInCube}
use Rattle.qm_space.specs.Plane.{IsOn}
use Rattle.qm_space.specs.Book.{plane_at}
use Rattle.qm_space.specs.InsideBound.{IsInsideBound}
use Rattle.qm_partition.specs.Tree.{Tree}
use Rattle.qm_partition.specs.Counting.{node_planes}
use Rattle.qm_partition.specs.LeafOfPoint.{leaf_at}
use Rattle.qm_spans.specs.declared.span.Span.{Span}
use Rattle.qm_spans.specs.Place.{start_place, end_place}
use Rattle.qm_spans.specs.Spans.{AreSpans}

-- Traces of segments through trees, and which trees and segments can be traced.

-- the trace of a segment through a tree: its spans from the start to the end, by the leaves to which the tree leads points
abbrev pub IsSegmentTrace : Tree → (a b : Point) → List Span → Type 0
IsSegmentTrace tree a b spans = AreSpans (leaf_at tree.planes tree.shape) a b start_place end_place spans

-- no node's plane has a distance above the greatest that a plane with a point of the closed cube can have
abbrev pub FitsTraces : Tree → Type 0
FitsTraces tree = All (λ n. unsigned_abs (plane_at tree.planes n).d ≤ cube_distance_bound) (node_planes tree.shape)

-- the plane of a number has a point of the cube
pub record MeetsCube (tree : Tree) (n : ℕ) : Type 0 where
  pub point : Point
  pub in_cube : IsInCube point
  pub on : IsOn (plane_at tree.planes n) point

-- an end of a segment that can be traced: inside the cube, in parts no finer than millionths
pub record IsTraceEnd (p : Point) : Type 0 where
  pub inside : IsInsideBound world_extent p
  pub weight : unsigned_abs p.w ≤ 1000000

-- a segment that can be traced
pub record CanTrace (tree : Tree) (a b : Point) : Type 0 where
  pub fits : FitsTraces tree
  pub start : IsTraceEnd a
  pub end : IsTraceEnd b
