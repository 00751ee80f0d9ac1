use Rattle.qm_faces.specs.inner.Cuts.{AreCutSoFar}
use Rattle.qm_faces.proofs.cutting.cut_all.Given as goal

abbrev pub invariant-loop-owner : goal.invariant-loop-owner
invariant-loop-owner l = AreCutSoFar l.planes l.list l.boundary l.owners l.owner-index l.fn.rest.items l.rest.items l.fn.pieces.items l.pieces.items
