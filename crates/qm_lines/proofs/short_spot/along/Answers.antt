use Rattle.qm_lines.proofs.Values.{along_fits, along_is, along_small}
use Rattle.qm_lines.proofs.short_spot.along.Goals as goal

pub overflow_mul-result : goal.overflow_mul-result
overflow_mul-result c = along_fits c.args.numerator c.args.component c.from.result c.requires.numerator c.requires.component c.from.ensures

pub returns-clause-exact : goal.returns-clause-exact
returns-clause-exact c = along_is c.args.numerator c.args.component c.from.result c.requires.numerator c.requires.component c.from.ensures

pub returns-clause-size : goal.returns-clause-size
returns-clause-size c = along_small c.args.numerator c.args.component c.from.result c.requires.numerator c.requires.component c.from.ensures
