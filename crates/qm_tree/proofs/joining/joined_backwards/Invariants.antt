use Rattle.std.proofs.Common.{◌≡◌, [], reverse, vec_len}
use Rattle.qm_partition.specs.inner.JoinedWalk.{joined_from}
use Rattle.qm_tree.proofs.joining.joined_backwards.Given as goal

-- the visits that are left, before those that are joined
abbrev pub invariant-loop-visit : goal.invariant-loop-visit
invariant-loop-visit l = joined_from l.walk.items (reverse l.joined.items) ≡ joined_from l.fn.walk.items []

abbrev pub decreases-loop-visit : goal.decreases-loop-visit
decreases-loop-visit l = vec_len l.walk
