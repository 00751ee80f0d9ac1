use Rattle.std.specs.Prelude.{◌≡◌}
use Rattle.qm_space.specs.Point.{Point}
use Rattle.qm_contents.specs.declared.contents.Contents.{Contents}
use Rattle.qm_partition.specs.Tree.{Tree}
use Rattle.qm_partition.specs.LeafOfPoint.{leaf_record_at, IsOffNodePlanes}
use Rattle.qm_segments.specs.Segment.{Segment, IsOnSegment}

-- What contents a point has is any relation here: that of the solids of a map, or that of the leaves of a tree.

-- each point of the segment that is on no node plane has these contents
abbrev pub IsClear : (Point → Contents → Type 0) → Tree → Segment → Contents → Type 0
IsClear has tree s contents = (x : Point) → IsOnSegment s x → IsOffNodePlanes tree.planes tree.shape x → has x contents

-- the leaf of the point has these contents
abbrev pub LeafHas : Tree → Point → Contents → Type 0
LeafHas tree x contents = (leaf_record_at tree.planes tree.shape x).contents ≡ contents
