use Rattle.std.specs.Prelude.{◌≡◌, ℕ, ◌+◌, ◌<◌, List}
use Rattle.qm_space.specs.Point.{Point, IsInCube}
use Rattle.qm_space.specs.Cuboid.{Cuboid}
use Rattle.qm_mapfile.specs.declared.entity.MapFile.{MapFile}
use Rattle.qm_drawn.specs.Solids.{drawn_solids}
use Rattle.qm_blocking.specs.HullContents.{MeetsBrush}
use Rattle.qm_partition.specs.Tree.{Tree}
use Rattle.qm_partition.specs.LeafOfPoint.{IsOffNodePlanes}
use Rattle.qm_spans.specs.declared.span.Span.{Span}
use Rattle.qm_spans.specs.Place.{start_place, point_on}
use Rattle.qm_spans.specs.SegmentTrace.{IsSegmentTrace}
use Rattle.qm_traced.specs.Within.{IsWithinSpan}
use Rattle.qm_traced.specs.SpanLeaves.{TellsContents, HasSolidSpan}
use Rattle.qm_formats.specs.TreeFile.{TreeFile}
use Rattle.qm_hull_trees.specs.HullBoxes.{hull_box}
use Rattle.qm_answers.specs.declared.decoded_section.DecodedSection.TheVariants.{Known}
use Rattle.qm_answers.specs.DecodedSections.{decoded_hull}

-- What the spans of a segment say of a map.

-- the trace of a segment through a tree, with both ends inside the cube
pub record IsTraceInCube (tree : Tree) (a b : Point) (spans : List Span) : Type 0 where
  pub start : IsInCube a
  pub end : IsInCube b
  pub is_trace : IsSegmentTrace tree a b spans

-- at a point strictly within a span, on no node plane, the map's drawn solids define the contents of the span's leaf, unless
-- that leaf is filled
abbrev pub SpansTellContents : MapFile → Tree → Type 0
SpansTellContents map tree =
    (a b : Point) (spans : List Span) (x : Point) (span : Span) → IsTraceInCube tree a b spans → IsWithinSpan a b start_place spans x span →
    IsOffNodePlanes tree.planes tree.shape x → TellsContents tree (drawn_solids map) span x

-- where the box, set at some point of the segment, has a point strictly inside an obstacle, some span is solid
abbrev pub SpansTellObstacles : MapFile → Cuboid → Tree → Type 0
SpansTellObstacles map box tree =
    (a b : Point) (spans : List Span) (i j : ℕ) → IsTraceInCube tree a b spans → 0 < i + j → MeetsBrush map box (point_on a b i j) →
    HasSolidSpan tree spans

-- the same of each hull of a file, as it is read in its section
abbrev pub HullSpansTellObstacles : MapFile → TreeFile → Type 0
HullSpansTellObstacles map file =
    (hull : ℕ) (found : TreeFile) → decoded_hull file hull ≡ Known found → SpansTellObstacles map (hull_box hull) found.tree
