use Rattle.std.proofs.Common.{◌+◌, not, length}
use Rattle.std.specs.List.{count_by}
use Rattle.qm_chains.specs.inner.Cone.{IsConeSoFar, AreLeft}
use Rattle.qm_flow.specs.inner.NewWords.{HaveAllNew}
use Rattle.qm_flow.proofs.cone.cone_of.Given as goal

-- the cone so far, and what is left to enter; the words of the mask that have something new are listed; and the source goes on from what it was
abbrev pub invariant-loop-leaf : goal.invariant-loop-leaf
invariant-loop-leaf g l = record {
  so_far : IsConeSoFar l.flow.world.now l.flow.first l.frame l.found l.entered l.scratch.cone l.scratch.due.items;
  left : AreLeft l.frame l.scratch.cone l.scratch.left;
  words : HaveAllNew l.frame.mask l.found l.scratch.words.items;
  on : g.S.RowSource.goes_on l.fn.source l.source;
}

-- each leaf that is entered is due once
abbrev pub decreases-loop-leaf : goal.decreases-loop-leaf
decreases-loop-leaf g l = count_by not l.scratch.cone + length l.scratch.due.items
