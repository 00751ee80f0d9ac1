use Rattle.std.proofs.Common.{◌≡◌, ℕ, Bool, List}
use Rattle.std.specs.List.{sum_by}
use Rattle.qm_chains.specs.inner.Walk.{frame_weight}
use Rattle.qm_sight.specs.WordInSight.{LieWithin}
use Rattle.qm_flow.specs.inner.FlowPairs.{pairs_of}
use Rattle.qm_flow.specs.inner.Spares.{AreSparesWide}
use Rattle.qm_flow.specs.inner.WalkSoFar.{IsWalkSoFar}
use Rattle.qm_flow.proofs.rounds.end_walk.Given as goal

-- each walk that it was goes on so far, in the same world and over the same ceilings; and the source goes on from what it was
abbrev pub invariant-loop-flow : goal.invariant-loop-flow
invariant-loop-flow g l = record {
  so_far : (p : ℕ) (ceilings : List (List Bool)) → LieWithin (g.S.RowSource.ceilings l.fn.source) ceilings → IsWalkSoFar l.fn.flow.world.now ceilings p (pairs_of l.fn.flow) l.fn.stack.frames.items l.fn.found →
      IsWalkSoFar l.fn.flow.world.now ceilings p (pairs_of l.flow) l.stack.frames.items l.found;
  world : l.flow.world.now ≡ l.fn.flow.world.now;
  spares : AreSparesWide l.fn.flow.world.now l.stack;
  on : g.S.RowSource.goes_on l.fn.source l.source;
}

abbrev pub decreases-loop-flow : goal.decreases-loop-flow
decreases-loop-flow g l = sum_by (frame_weight l.fn.flow.world.now) l.stack.frames.items
