use Rattle.qm_geom.proofs.LowestAnswers.{small_stays}
use Rattle.qm_geom.proofs.unreduced.UnreducedPlane.fault.Goals as goal

pub returns-then-has_small_normal : goal.returns-then-has_small_normal
returns-then-has_small_normal c = (c.has_normal.ensures.0 c.if-has_normal.true, small_stays c.args.self.now (c.has_small_normal.ensures c.if-has_small_normal.true))
