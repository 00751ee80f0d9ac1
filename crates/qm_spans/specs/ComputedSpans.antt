use Rattle.std.specs.Prelude.{ℕ, zero, suc, pos, Bool, int_lt, List, [], ◌∷◌, ◌++◌, if◌then◌else◌}
use Rattle.qm_space.specs.Point.{Point}
use Rattle.qm_space.specs.Plane.{Plane}
use Rattle.qm_partition.specs.Partition.{Partition, leaf, node}
use Rattle.qm_partition.specs.Tree.{Tree}
use Rattle.qm_partition.specs.Numbering.{leaves_after}
use Rattle.qm_partition.specs.LeafOfPoint.{node_value}
use Rattle.qm_spans.specs.declared.span.Span.{Span}
use Rattle.qm_spans.specs.declared.parting.Parting.{Parting}
use Rattle.qm_spans.specs.Partings.{start_parting, end_parting, crossing_at, crosses_between, is_behind_after, lowest_place}

-- the spans between two partings through a part of a tree whose leaves are numbered from k on
unfoldable pub spans_between : List Plane → (a b : Point) → Partition → ℕ → (from to : Parting) → List Span
spans_between planes a b (leaf found) k from to = record { leaf = k; to = lowest_place to } ∷ []
spans_between planes a b (node n front back) k from to =
    let u = node_value planes n a in
    let v = node_value planes n b in
    let through : Bool → Parting → Parting → List Span =
    λ behind from to. if behind then spans_between planes a b back (leaves_after front k) from to else spans_between planes a b front k from to in
    if crosses_between u v from to then through (int_lt u (pos 0)) from (crossing_at u v) ++ through (int_lt v (pos 0)) (crossing_at u v) to
    else through (is_behind_after u v from) from to

-- from a parting to the end, as long as parts are left
abbrev pub spans_while_left : Tree → (a b : Point) → Parting → ℕ → List Span
spans_while_left tree a b at zero = []
spans_while_left tree a b at (suc left) = spans_between tree.planes a b tree.shape 0 at end_parting

unfoldable pub spans_from : Tree → (a b : Point) → Parting → List Span
spans_from tree a b at = spans_while_left tree a b at at.behind

-- the trace
abbrev pub trace_of : Tree → (a b : Point) → List Span
trace_of tree a b = spans_from tree a b start_parting
