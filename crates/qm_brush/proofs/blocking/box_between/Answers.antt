use Rattle.qm_brush.proofs.MovedEnds.{low_kept}
use Rattle.qm_brush.proofs.blocking.box_between.Goals as goal

pub stretch_between-requires-3-clause-low : goal.stretch_between-requires-3-clause-low
stretch_between-requires-3-clause-low c = low_kept c.args.lo c.requires.low 2
