use Rattle.std.proofs.Common.{take, None}
use Rattle.qm_split.specs.inner.Ranked.{IsLesser}
use Rattle.qm_split.proofs.contender.least_of.Given as goal

abbrev pub invariant-loop-piece : goal.invariant-loop-piece
invariant-loop-piece l = IsLesser None (take l.piece-index l.pieces) l.least
