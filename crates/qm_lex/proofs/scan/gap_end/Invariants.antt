use Rattle.std.proofs.Common.{◌≡◌, ◌-◌, length}
use Rattle.qm_lex.specs.inner.Scan.{IsPositionIn, left_at}
use Rattle.qm_lex.proofs.scan.gap_end.Given as goal

abbrev pub invariant-loop-position : goal.invariant-loop-position
invariant-loop-position l = record {
  position : IsPositionIn l.text l.position;
  same_left : left_at l.text l.fn.from ≡ left_at l.text l.position;
}

abbrev pub decreases-loop-position : goal.decreases-loop-position
decreases-loop-position l = length l.text - l.position.offset
