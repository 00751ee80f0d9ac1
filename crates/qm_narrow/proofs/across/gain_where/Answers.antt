use Rattle.qm_separators.specs.inner.Found.{PartsAlong}
use Rattle.qm_separators.proofs.GainedPlanes.{gains_there}
use Rattle.qm_narrow.proofs.across.gain_where.Goals as goal

pub returns-else-may : goal.returns-else-may
returns-else-may c = gains_there (PartsAlong c.args.pair.now.source.now c.args.pair.now.pass.now c.args.along.now) c.args.planes.now.items (c.requires.not c.if-may.false)
