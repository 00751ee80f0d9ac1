use Rattle.qm_facets.specs.inner.Joined.{IsJoined, HasCornersBefore}
use Rattle.qm_half_spaces.proofs.extents.Extents.with_corners.Given as goal

-- it has the corners before
abbrev pub invariant-loop-i : goal.invariant-loop-i
invariant-loop-i l = IsJoined l.fn.self (HasCornersBefore l.winding l.i) l.extents
