use Rattle.qm_geom.proofs.Numbers.{AreBookPlanes-from}
use Rattle.qm_geom.proofs.plane_book.PlaneBook.len.Goals as goal

pub returns-clause-planes : goal.returns-clause-planes
returns-clause-planes c = rw (← c.self.view_is) (AreBookPlanes-from _ _ c.self.invariant)
