use Rattle.std.proofs.Common.{◌-◌, ◌*◌, ◌^◌, length, sum}
use Rattle.qm_base.specs.inner.Sweeping.{ArePassed, IsGrown}
use Rattle.qm_base.proofs.sweeping.flood.Given as goal

abbrev pub invariant-turns : goal.invariant-turns
invariant-turns l = ArePassed l.world l.ways l.seen l.passed × IsGrown l.world.portals l.ways l.fn.seen l.seen

-- the words of what was passed grow as numbers
abbrev pub decreases-turns : goal.decreases-turns
decreases-turns l = length l.passed * 2 ^ 64 - sum l.passed
