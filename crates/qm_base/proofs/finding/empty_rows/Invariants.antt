use Rattle.std.proofs.Common.{◌≡◌, length}
use Rattle.qm_base.proofs.finding.empty_rows.Given as goal

abbrev pub invariant-loop-k : goal.invariant-loop-k
invariant-loop-k l = length l.rows.items ≡ l._k
