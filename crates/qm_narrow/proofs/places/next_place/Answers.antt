use Rattle.std.proofs.Common.{sym, arith}
use Rattle.qm_convex.proofs.Places.{next_inner, next_last}
use Rattle.qm_narrow.proofs.places.next_place.Goals as goal

pub returns-then-i-count-clause-value : goal.returns-then-i-count-clause-value
returns-then-i-count-clause-value c = sym (next_last c.args.count c.args.i (omega arith))

pub returns-else-i-count-clause-value : goal.returns-else-i-count-clause-value
returns-else-i-count-clause-value c = let e = next_inner c.args.count c.args.i (omega arith) in omega arith
