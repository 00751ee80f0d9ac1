use Rattle.std.specs.Int.{w64}
use Rattle.qm_formats.specs.Layout.{many}
use Rattle.qm_formats.specs.Fields.{unsigned}
use Rattle.qm_formats.specs.FileParts.{short}
use Rattle.qm_formats.proofs.ReadLists.{IsReadSoFar}
use Rattle.qm_model_file.proofs.kept_reading.numbers_at.Given as goal

-- some numbers are read, and what is read of the others completes them
abbrev pub invariant-loop : goal.invariant-loop
invariant-loop l = IsReadSoFar (λ _. unsigned short w64) l.count l.bytes ((many (unsigned short w64) l.count).read l.bytes l.at) l.numbers.items l.counter l.next
