use Rattle.qm_lines.proofs.Values.{far_fits, far_is, far_small}
use Rattle.qm_lines.proofs.short_spot.far.Goals as goal

pub overflow_mul-result : goal.overflow_mul-result
overflow_mul-result c = far_fits c.args.denominator c.args.distance c.requires.denominator c.requires.distance

pub returns-clause-exact : goal.returns-clause-exact
returns-clause-exact c = far_is c.args.denominator c.args.distance c.requires.denominator c.requires.distance

pub returns-clause-size : goal.returns-clause-size
returns-clause-size c = far_small c.args.denominator c.args.distance c.requires.denominator c.requires.distance
