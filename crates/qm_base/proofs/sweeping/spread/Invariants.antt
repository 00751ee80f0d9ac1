use Rattle.std.proofs.Common.{take}
use Rattle.qm_base.proofs.SweepSteps.{IsSpreadBy}
use Rattle.qm_base.proofs.sweeping.spread.Given as goal

abbrev pub invariant-loop-q : goal.invariant-loop-q
invariant-loop-q l = IsSpreadBy l.world.portals l.ways (take l.q-index l.leaving) l.due l.fn.seen l.seen
