use Rattle.std.proofs.Common.{◌∙◌}
use Rattle.qm_geom.proofs.Numbers.{number_found}
use Rattle.qm_geom.proofs.plane_book.PlaneBook.find.Goals as goal

pub returns : goal.returns
returns c = rw (← c.self.view_is) (number_found c.self.inside.planes.items c.self.inside.numbers c.args.plane.now c.copied.result c.self.invariant (c.copied.ensures ∙ c.get.ensures.value))
