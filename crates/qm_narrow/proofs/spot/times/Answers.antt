use Rattle.std.proofs.Common.{◌≤◌, ℤ, sym, subst, unsigned_abs}
use Rattle.qm_narrow.specs.inner.Look.{look_product_bound}
use Rattle.qm_narrow.proofs.KeptNormals.{part_small, times_fits, times_is}
use Rattle.qm_narrow.proofs.spot.times.Goals as goal

pub overflow_mul-result : goal.overflow_mul-result
overflow_mul-result c = times_fits c.args.component c.args.coordinate c.from.result c.requires.component_small c.requires.in_cube c.from.ensures

pub returns-clause-exact : goal.returns-clause-exact
returns-clause-exact c = times_is c.args.component c.args.coordinate c.from.result c.requires.component_small c.requires.in_cube c.from.ensures

pub returns-clause-size : goal.returns-clause-size
returns-clause-size c = subst (λ (z : ℤ). unsigned_abs z ≤ look_product_bound) (sym (returns-clause-exact c)) (part_small c.args.component c.args.coordinate c.requires.component_small c.requires.in_cube)
