use Rattle.std.proofs.Common.{◌≡◌, ℕ, length}
use Rattle.qm_contacts.specs.NumberedLeaves.{numbered_leaves}
use Rattle.qm_sight.specs.InCeiling.{IsInCeiling}
use Rattle.qm_lines.specs.Gained.{HasGainedShown}
use Rattle.qm_lines.specs.inner.Trace.{IsTrace, AreInRange}
use Rattle.qm_lines.proofs.following.follow.Given as goal

-- the trace goes on from what it was, and what the row has gained so far is shown
abbrev pub invariant-loop : goal.invariant-loop
invariant-loop g l = record {
  range : AreInRange l.course.world.now l.trace;
  long : length l.row ≡ length (numbered_leaves l.course.world.now.tree);
  trace : (p : ℕ) → IsTrace l.course.world.now p l.course.line.now l.fn.trace → IsTrace l.course.world.now p l.course.line.now l.trace;
  shown : (p : ℕ) → IsTrace l.course.world.now p l.course.line.now l.fn.trace → HasGainedShown l.course.world.now.portals (IsInCeiling (g.S.RowSource.ceilings l.fn.source)) p l.fn.row l.row;
  on : g.S.RowSource.goes_on l.fn.source l.source;
}
