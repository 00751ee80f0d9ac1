use Rattle.std.proofs.Common.{ℕ, ◌∷◌}
use Rattle.qm_lists.specs.WorkList.{IsIn}
use Rattle.qm_board.specs.PassOf.{findings_of}
use Rattle.qm_crew.specs.inner.PassOver.{IsPassOver}
use Rattle.qm_crew.specs.inner.TurnsTaken.{IsInSomeList, AreSettled}
use Rattle.qm_crew.proofs.settling.settle_each.Given as goal

-- the first portals, so many, are settled
abbrev pub invariant-loop-portal : goal.invariant-loop-portal
invariant-loop-portal l = record {
  pass : IsPassOver l.shared.world.now l.shared.board.now l.settling.pass;
  stands : (number : ℕ) → IsIn l.listed number → IsInSomeList (l.settling.first.items ∷ l.others) number;
  settled : AreSettled l.shared.world.now (findings_of l.settling.pass) l.settling.first.items l.others l.portal;
}
