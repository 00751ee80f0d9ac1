use Rattle.std.proofs.Common.{take}
use Rattle.qm_split.proofs.RankOrder.{AreLeastRank}
use Rattle.qm_split.proofs.gathering.Gathering.least.Given as goal

abbrev pub invariant-loop-contender : goal.invariant-loop-contender
invariant-loop-contender l = AreLeastRank (take l.contender-index l.contender-items) l.least
