use Rattle.std.proofs.Common.{ℕ, ◌≤◌, ◌+◌}
use Rattle.std.specs.Int.{IsGcd}
use Rattle.qm_geom.proofs.factor.common_divisor.Given as goal

abbrev pub invariant-loop-less : goal.invariant-loop-less
invariant-loop-less l = record {
  same : (g : ℕ) → IsGcd l.greater l.less g → IsGcd l.fn.first l.fn.second g;
  small : l.greater + l.less ≤ l.fn.first + l.fn.second;
}

abbrev pub decreases-loop-less : goal.decreases-loop-less
decreases-loop-less l = l.less
