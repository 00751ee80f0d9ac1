use Rattle.std.proofs.Common.{sym, subst, unsigned_abs, w64}
use Rattle.std.specs.Int.{◌∣◌}
use Rattle.std.proofs.lemmas.Int.{to_z-of_z}
use Rattle.qm_narrow.proofs.lowest.quotient.Goals as goal

pub divided_exactly-quotient-requires-clause-divides : goal.divided_exactly-quotient-requires-clause-divides
divided_exactly-quotient-requires-clause-divides c = subst (λ n. c.args.factor ∣ unsigned_abs n) (sym (to_z-of_z w64 c.args.component c.ranges.component)) c.requires.divides
