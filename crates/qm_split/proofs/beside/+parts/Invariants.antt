use Prim.Native.Nat.{◌+◌, ◌-◌, ◌*◌}
use Rattle.qm_split.proofs.beside.+parts.Given as goal

abbrev pub decreases-parts_of_halves : goal.decreases-parts_of_halves
decreases-parts_of_halves g l = 4 * (l.to - l.from)

abbrev pub decreases-both_parts : goal.decreases-both_parts
decreases-both_parts g l = 4 * (l.to - l.from) - 1

abbrev pub decreases-both_parts-first : goal.decreases-both_parts-first
decreases-both_parts-first g l = 4 * (l.middle - l.from) + 1

abbrev pub decreases-both_parts-second : goal.decreases-both_parts-second
decreases-both_parts-second g l = 4 * (l.to - l.middle) + 1
