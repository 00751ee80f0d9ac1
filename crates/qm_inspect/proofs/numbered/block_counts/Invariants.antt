use Rattle.std.proofs.Common.{◌≡◌, length}
use Rattle.qm_inspect.specs.inner.BlockCounts.{AreBlockCounts}
use Rattle.qm_inspect.proofs.numbered.block_counts.Given as goal

-- the counts of the first blocks are there
abbrev pub invariant-loop-k : goal.invariant-loop-k
invariant-loop-k l = record { counts : AreBlockCounts l.leaves l.counts.items; blocks : length l.counts.items ≡ l.k }
