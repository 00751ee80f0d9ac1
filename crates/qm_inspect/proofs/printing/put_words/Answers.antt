use Rattle.std.proofs.Common.{ap}
use Rattle.qm_formats.specs.TreeFile.{TreeFile}
use Rattle.qm_inspect.proofs.PrintedSpans.{traceable_hull}
use Rattle.qm_inspect.proofs.printing.put_words.Goals as goal

pub put_hull_trace-requires-clause-traceable : goal.put_hull_trace-requires-clause-traceable
put_hull_trace-requires-clause-traceable c =
    traceable_hull c.args.file.now c.args.parts.now c.in-HullTrace.hull c.in-HullTrace.from c.in-HullTrace.to c.args.answer.now c.hull.result.now c.file.inside.bound
    c.requires.parts c.requires.printable c.in-HullTrace.is c.hull.ensures (ap (λ (file : TreeFile). file.bound) c.file.view_is)
