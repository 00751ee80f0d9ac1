use Rattle.std.proofs.Common.{◌≤◌, ℤ, sym, subst, unsigned_abs}
use Rattle.qm_narrow.specs.inner.Look.{look_bound}
use Rattle.qm_narrow.proofs.KeptNormals.{sum_kept, sum_small}
use Rattle.qm_narrow.proofs.normal.sum.Goals as goal

pub returns-clause-exact : goal.returns-clause-exact
returns-clause-exact c = sum_kept c.args.numbers.now.x c.args.numbers.now.y c.args.numbers.now.z c.requires.x_small c.requires.y_small c.requires.z_small

pub returns-clause-size : goal.returns-clause-size
returns-clause-size c = subst (λ (z : ℤ). unsigned_abs z ≤ look_bound) (sym (returns-clause-exact c)) (sum_small c.args.numbers.now.x c.args.numbers.now.y c.args.numbers.now.z c.requires.x_small c.requires.y_small c.requires.z_small)
