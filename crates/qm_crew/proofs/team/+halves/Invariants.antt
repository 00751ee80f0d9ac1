use Prim.Native.Nat.{◌+◌, ◌-◌, ◌*◌}
use Rattle.qm_crew.proofs.team.+halves.Given as goal

abbrev pub decreases-work_all : goal.decreases-work_all
decreases-work_all g l = 4 * l.workers.count

abbrev pub decreases-both_halves : goal.decreases-both_halves
decreases-both_halves g l = 4 * (l.one.count + l.two.count) - 1

abbrev pub decreases-both_halves-front : goal.decreases-both_halves-front
decreases-both_halves-front g l = 4 * l.one.count + 1

abbrev pub decreases-both_halves-back : goal.decreases-both_halves-back
decreases-both_halves-back g l = 4 * l.two.count + 1
