use Rattle.std.proofs.Common.{ℕ, ◌+◌, length, ap, ◌∙◌}
use Rattle.std.proofs.lemmas.List.{length_push}
use Rattle.std.proofs.lemmas.Result.{err_from_is_err_and}
use Rattle.qm_formats.proofs.ReadLists.{one_more, one_fault}
use Rattle.qm_file.proofs.Faults.{fault_passes}
use Rattle.qm_file.proofs.record_reading.read_all.Goals as goal

pub returns-in_err-record-clause-gives : goal.returns-in_err-record-clause-gives
returns-in_err-record-clause-gives g c =
    let p = err_from_is_err_and c.from_residual-in_err-record.result c.from_residual-in_err-record.ensures.1 in
    rw (p.1, p.2) (fault_passes c.in_err-record.field-0.0 (one_fault (λ _. g.R.Record.layout) c.args.count c.args.bytes.now _ c.loop.records.items c.loop.counter c.loop.next c.loop-test.true c.loop.invariant.whole) c.in_err-record.ensures)

pub loop-preserved : goal.loop-preserved
loop-preserved g c = record {
  whole = one_more (λ _. g.R.Record.layout) c.args.count c.args.bytes.now _ c.loop.records.items c.loop.counter c.loop.next c.in_ok-record.record c.in_ok-record.after _ c.loop-test.true c.loop.invariant.whole c.in_ok-record.ensures c.in_ok-push.ensures.items;
  counted = ap length c.in_ok-push.ensures.items ∙ length_push c.loop.records.items c.in_ok-record.record ∙ ap (λ (n : ℕ). n + 1) c.loop.invariant.counted;
}
