use Rattle.qm_lines.proofs.Values.{scaled_fits, scaled_is, scaled_small}
use Rattle.qm_lines.proofs.line.scaled.Goals as goal

pub overflow_mul-result : goal.overflow_mul-result
overflow_mul-result c = scaled_fits c.args.times c.from.result c.args.coordinate c.requires.times c.from.ensures c.requires.coordinate

pub returns-clause-exact : goal.returns-clause-exact
returns-clause-exact c = scaled_is c.args.times c.from.result c.args.coordinate c.requires.times c.from.ensures c.requires.coordinate

pub returns-clause-size : goal.returns-clause-size
returns-clause-size c = scaled_small c.args.times c.from.result c.args.coordinate c.requires.times c.from.ensures c.requires.coordinate
