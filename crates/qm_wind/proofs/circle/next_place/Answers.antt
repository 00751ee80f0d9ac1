use Rattle.std.proofs.Common.{sym, arith}
use Rattle.qm_convex.proofs.Places.{next_inner, next_last}
use Rattle.qm_wind.proofs.circle.next_place.Goals as goal

pub returns-then-place-places-clause-value : goal.returns-then-place-places-clause-value
returns-then-place-places-clause-value c = sym (next_last c.args.places c.args.place (omega arith))

pub returns-else-place-places-clause-value : goal.returns-else-place-places-clause-value
returns-else-place-places-clause-value c = let e = next_inner c.args.places c.args.place (omega arith) in omega arith
