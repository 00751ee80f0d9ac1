use Rattle.std.proofs.Common.{List, [], ◌∷◌, ◌++◌, All, map}
use Rattle.std.specs.Vec.Iter.{into_iter_items, into_iter_len}
use Rattle.qm_space.specs.Plane.{Plane, flipped}
use Rattle.qm_split.specs.Pieces.{solid_of_contender, IsContender}
use Rattle.qm_split.specs.inner.Parts.{IsWindingInCell}
use Rattle.qm_split.specs.inner.Gathered.{IsGathered, HasFewer}
use Rattle.qm_lists.specs.inner.Taking.{IsTakenFrom}
use Rattle.qm_split.proofs.gathering.Gathering.split.Given as goal

abbrev pub invariant-loop-contender : goal.invariant-loop-contender
invariant-loop-contender l = record {
  taken : IsTakenFrom l.yielded (into_iter_items l.initial.contender-iterator) (into_iter_items l.contender-iterator) (into_iter_len l.contender-iterator);
  front : (book cell : List Plane) → All (IsContender book cell) l.yielded → IsWindingInCell cell l.plane l.section →
      IsGathered book (cell ++ l.plane ∷ []) l.fn.self.strongest (map solid_of_contender l.yielded) l.front;
  back : (book cell : List Plane) → All (IsContender book cell) l.yielded → IsWindingInCell cell l.plane l.section →
      IsGathered book (cell ++ flipped l.plane ∷ []) l.fn.self.strongest (map solid_of_contender l.yielded) l.back;
  front_count : (book cell : List Plane) → All (IsContender book cell) l.yielded → HasFewer l.yielded l.plane l.front;
  back_count : (book cell : List Plane) → All (IsContender book cell) l.yielded → HasFewer l.yielded l.plane l.back;
}
