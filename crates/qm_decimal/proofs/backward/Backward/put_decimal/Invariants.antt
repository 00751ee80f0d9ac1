use Rattle.std.proofs.Common.{◌≡◌, ◌<◌, ◌^◌, ◌++◌, decimal}
use Rattle.qm_decimal.proofs.backward.Backward.put_decimal.Given as goal

abbrev pub invariant-loop-n : goal.invariant-loop-n
invariant-loop-n l = (decimal l.n ++ l.self ≡ decimal l.fn.n ++ l.fn.self) × (l.n < 10 ^ 31)

abbrev pub decreases-loop-n : goal.decreases-loop-n
decreases-loop-n l = l.n
