use Rattle.std.proofs.Common.{take, map}
use Rattle.qm_portal.specs.declared.exit.Exit.{Exit}
use Rattle.qm_chains.specs.inner.Cone.{LeadsInto, AreEntered, AreLeft}
use Rattle.qm_flow.specs.inner.NewWords.{HaveAllNew}
use Rattle.qm_flow.proofs.cone.go_on.Given as goal

-- the leaves of the exits so far are entered, and what is left to enter; the words of the mask that have something new are listed, and the source goes on from what it was
abbrev pub invariant-loop-exit : goal.invariant-loop-exit
invariant-loop-exit g l = record {
  entered : AreEntered (LeadsInto l.flow.world.now l.flow.first l.frame l.found (map (λ (exit : Exit). exit.portal) (take l.exit-index l.exits))) l.fn.scratch.cone l.scratch.cone l.fn.scratch.due.items l.scratch.due.items;
  left : AreLeft l.frame l.scratch.cone l.scratch.left;
  words : HaveAllNew l.frame.mask l.found l.scratch.words.items;
  on : g.S.RowSource.goes_on l.fn.source l.source;
}
