use Rattle.qm_brush.proofs.MovedEnds.{low_in_cube, high_in_cube}
use Rattle.qm_brush.proofs.blocking.stretch_between.Goals as goal

pub between-requires-clause-low : goal.between-requires-clause-low
between-requires-clause-low c = low_in_cube c.args.low c.requires.low

pub between-requires-clause-high : goal.between-requires-clause-high
between-requires-clause-high c = high_in_cube c.args.high c.requires.high
