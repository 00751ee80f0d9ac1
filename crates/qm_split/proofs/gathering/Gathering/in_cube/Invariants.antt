use Rattle.std.proofs.Common.{take, None, []}
use Rattle.qm_solids.specs.InBook.{solids_in}
use Rattle.qm_split.specs.inner.Gathered.{IsGathered}
use Rattle.qm_split.proofs.gathering.Gathering.in_cube.Given as goal

abbrev pub invariant-loop-i : goal.invariant-loop-i
invariant-loop-i l = IsGathered l.book [] None (solids_in l.book (take l.i l.list)) l.gathering
