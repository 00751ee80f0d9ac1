use Rattle.std.proofs.Common.{◌<◌, length, refl}
use Rattle.std.proofs.lemmas.Option.{slice_get_read}
use Rattle.qm_geom.proofs.plane_book.PlaneBook.plane.Goals as goal

pub returns-clause-reduced : goal.returns-clause-reduced
returns-clause-reduced c =
    let within : c.args.n < length c.self.inside.planes.items = rw c.self.view_is c.requires in
    c.self.invariant.reduced c.args.n c.index.result.now (slice_get_read _ _ _ _ refl within c.index.ensures)
