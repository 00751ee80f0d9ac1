use Rattle.std.proofs.Common.{List}
use Rattle.std.specs.Vec.Iter.{into_iter_items, into_iter_len}
use Rattle.qm_space.specs.Plane.{Plane}
use Rattle.qm_solids.specs.InBook.{BookSolid}
use Rattle.qm_lists.specs.inner.Taking.{IsTakenFrom}
use Rattle.qm_split.proofs.CubeParts.{IsGatheredOf}
use Rattle.qm_split.proofs.gathering.Gathering.of_parts.Given as goal

abbrev pub invariant-loop-part : goal.invariant-loop-part
invariant-loop-part l = record {
  taken : IsTakenFrom l.yielded (into_iter_items l.initial.part-iterator) (into_iter_items l.part-iterator) (into_iter_len l.part-iterator);
  gathered : (book : List Plane) (list : List BookSolid) → IsGatheredOf book list l.yielded l.gathering;
}
