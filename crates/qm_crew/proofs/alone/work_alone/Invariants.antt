use Rattle.std.proofs.Common.{◌≡◌}
use Rattle.std.specs.List.{range_with_len}
use Rattle.qm_board.specs.PassOf.{findings_of}
use Rattle.qm_crew.specs.inner.PassOver.{IsPassOver}
use Rattle.qm_crew.specs.inner.TurnsTaken.{LieAlong}
use Rattle.qm_crew.proofs.alone.work_alone.Given as goal

-- the first portals, so many, had their turns in order
abbrev pub invariant-loop-portal : goal.invariant-loop-portal
invariant-loop-portal l = record {
  pass : IsPassOver l.shared.world.now l.shared.board.now l.settling.pass;
  list : l.settling.first.items ≡ range_with_len 0 l.portal;
  along : LieAlong l.shared.world.now (findings_of l.settling.pass) (range_with_len 0 l.portal);
}
