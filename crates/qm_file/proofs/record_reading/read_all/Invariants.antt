use Rattle.std.proofs.Common.{◌≡◌, length}
use Rattle.qm_formats.specs.Layout.{many}
use Rattle.qm_formats.proofs.ReadLists.{IsReadSoFar}
use Rattle.qm_file.proofs.record_reading.read_all.Given as goal

-- some records are read, and what is read of the others completes them
abbrev pub invariant-loop : goal.invariant-loop
invariant-loop g l = record {
  whole : IsReadSoFar (λ _. g.R.Record.layout) l.count l.bytes ((many g.R.Record.layout l.count).read l.bytes l.at) l.records.items l.counter l.next;
  counted : length l.records.items ≡ l.counter;
}
