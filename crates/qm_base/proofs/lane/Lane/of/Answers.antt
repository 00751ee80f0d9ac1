use Rattle.std.proofs.Common.{sym}
use Rattle.qm_space.proofs.ReducedPlanes.{flipped_twice}
use Rattle.qm_base.proofs.lane.Lane.of.Goals as goal

pub returns-else-lt-clause-into : goal.returns-else-lt-clause-into
returns-else-lt-clause-into c = rw c.flipped-other.ensures (sym (flipped_twice c.args.into.now))
