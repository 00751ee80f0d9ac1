use Rattle.std.proofs.Common.{◌≡◌, take}
use Rattle.qm_split.specs.CellPlanes.{planes_of_runs}
use Rattle.qm_split.proofs.cell.same_runs.Given as goal

abbrev pub invariant-loop-run : goal.invariant-loop-run
invariant-loop-run l = planes_of_runs l.same.items ≡ planes_of_runs (take l.run-index l.runs)
