use Rattle.std.proofs.Common.{◌≡◌, ℕ, ◌+◌, ◌%◌}
use Rattle.std.specs.Int.{IsGcd}
use Rattle.qm_narrow.proofs.divisor.divisor_of_odd.Given as goal

abbrev pub invariant-loop-one : goal.invariant-loop-one
invariant-loop-one l = record {
  one_odd : l.one % 2 ≡ 1;
  other_odd : l.other % 2 ≡ 1;
  same : (g : ℕ) → IsGcd l.one l.other g → IsGcd l.fn.first l.fn.second g;
}

abbrev pub decreases-loop-one : goal.decreases-loop-one
decreases-loop-one l = l.one + l.other
