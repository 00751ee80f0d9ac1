use Rattle.std.specs.Int.{w64}
use Rattle.std.proofs.lemmas.Result.{err_from_is_err_and}
use Rattle.qm_formats.specs.Fields.{unsigned}
use Rattle.qm_formats.specs.FileParts.{short}
use Rattle.qm_formats.proofs.ReadLists.{one_more, one_fault}
use Rattle.qm_model_file.proofs.kept_reading.numbers_at.Goals as goal

pub returns-in_err-number : goal.returns-in_err-number
returns-in_err-number c =
    let p = err_from_is_err_and c.from_residual.result c.from_residual.ensures.1 in
    rw (p.1, p.2) (one_fault (λ _. unsigned short w64) c.args.count c.args.bytes.now _ c.loop.numbers.items c.loop.counter c.loop.next c.loop-test.true c.loop.invariant short c.in_err-number.field-0.0.offset c.in_err-number.ensures)

pub loop-preserved : goal.loop-preserved
loop-preserved c = one_more (λ _. unsigned short w64) c.args.count c.args.bytes.now _ c.loop.numbers.items c.loop.counter c.loop.next c.in_ok-number.number c.in_ok-number.after _ c.loop-test.true c.loop.invariant c.in_ok-number.ensures c.in_ok-push.ensures.items
