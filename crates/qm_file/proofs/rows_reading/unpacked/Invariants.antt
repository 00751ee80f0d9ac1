use Rattle.qm_file.proofs.Unpacking.{IsUnpacked}
use Rattle.qm_file.proofs.rows_reading.unpacked.Given as goal

abbrev pub invariant-loop-k : goal.invariant-loop-k
invariant-loop-k l = IsUnpacked l.places l.packed.items l.row l.k
