use Rattle.std.proofs.Common.{inl}
use Rattle.qm_split.proofs.SidesOfPlanes.{other_by_test, some_of_lying, none_of_other}
use Rattle.qm_split.proofs.contender.is_ahead.Goals as goal

pub returns-in-Front : goal.returns-in-Front
returns-in-Front c = λ convex. inl (some_of_lying c.lies.result c.args.section.now c.args.face.now convex c.in-Front.is c.lies.ensures)

pub returns-in-Back : goal.returns-in-Back
returns-in-Back c = λ convex. (
  none_of_other c.lies.result c.args.section.now c.args.face.now c.in-Back.is c.lies.ensures,
  other_by_test c.args.face.now c.args.plane.now c.eq.result c.eq.ensures c.if-eq.false,
)
