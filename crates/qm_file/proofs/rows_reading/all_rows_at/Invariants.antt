use Rattle.qm_formats.specs.Layout.{each}
use Rattle.qm_formats.specs.FileLayout.{own_row_layout}
use Rattle.qm_formats.proofs.ReadLists.{IsReadSoFar}
use Rattle.qm_file.proofs.rows_reading.all_rows_at.Given as goal

-- some rows are read, and what is read of the others completes them
abbrev pub invariant-loop-k : goal.invariant-loop-k
invariant-loop-k l = IsReadSoFar (own_row_layout l.numbered) l.numbered l.bytes ((each (own_row_layout l.numbered) l.numbered).read l.bytes l.at) l.rows.items l.k l.next
