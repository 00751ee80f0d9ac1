use Rattle.std.proofs.lemmas.Result.{err_from_is_err_and}
use Rattle.qm_formats.specs.FileLayout.{own_row_layout}
use Rattle.qm_formats.proofs.ReadLists.{one_more, one_fault}
use Rattle.qm_file.proofs.Faults.{fault_passes}
use Rattle.qm_file.proofs.rows_reading.all_rows_at.Goals as goal

pub returns-in_err-row : goal.returns-in_err-row
returns-in_err-row c =
    let p = err_from_is_err_and c.from_residual-in_err-row.result c.from_residual-in_err-row.ensures.1 in
    rw (p.1, p.2) (fault_passes c.in_err-row.field-0.0 (one_fault (own_row_layout c.args.numbered) c.args.numbered c.args.bytes.now _ c.loop-k.rows.items c.loop-k.k c.loop-k.next c.loop-k-test.true c.loop-k.invariant) c.in_err-row.ensures)

pub loop-k-preserved : goal.loop-k-preserved
loop-k-preserved c =
    one_more (own_row_layout c.args.numbered) c.args.numbered c.args.bytes.now _ c.loop-k.rows.items c.loop-k.k c.loop-k.next c.in_ok-row.row c.in_ok-row.after _ c.loop-k-test.true c.loop-k.invariant c.in_ok-row.ensures c.in_ok-push.ensures.items
