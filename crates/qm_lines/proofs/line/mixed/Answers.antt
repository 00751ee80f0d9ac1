use Rattle.qm_lines.proofs.Values.{apart_64_fits, mixed_number}
use Rattle.qm_lines.proofs.line.mixed.Goals as goal

pub overflow_sub-result : goal.overflow_sub-result
overflow_sub-result c = apart_64_fits c.scaled.result c.scaled-2.result c.scaled.ensures.size c.scaled-2.ensures.size

pub returns : goal.returns
returns c =
    mixed_number c.args.from c.args.to c.args.begin c.args.end c.requires.from c.requires.to c.scaled.result c.scaled-2.result c.scaled.ensures.size c.scaled-2.ensures.size
    c.requires.begin c.requires.end c.scaled.ensures.exact c.scaled-2.ensures.exact
