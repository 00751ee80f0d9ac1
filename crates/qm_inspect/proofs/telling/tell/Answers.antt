use Rattle.std.proofs.Common.{◌+◌, [], take, sym, subst, string_bytes}
use Rattle.std.proofs.lemmas.Option.{slice_get-get_or}
use Rattle.qm_commands.specs.declared.query.Query.TheVariants.{Count}
use Rattle.qm_answers.specs.AllAnswers.{AreAnswered, no_more}
use Rattle.qm_answers.proofs.PrintableAnswers.{answers_are_printable}
use Rattle.qm_answers.proofs.Told.{answered_at, refused_at}
use Rattle.qm_inspect.proofs.telling.tell.Goals as goal

pub loop-k-init : goal.loop-k-init
loop-k-init c = subst (AreAnswered c.args.file.now []) (sym c.in_ok-lines.ensures.bytes) no_more

pub returns-in-Err : goal.returns-in-Err
returns-in-Err c =
    let queries = c.args.queries.now in
    refused_at c.args.file.now queries c.loop-k.k _ (string_bytes c.loop-k.lines) c.in-Err.fault
    (slice_get-get_or queries c.loop-k.k Count c.loop-k-test.true) c.loop-k.invariant c.in-Err.ensures

pub loop-k-preserved : goal.loop-k-preserved
loop-k-preserved c =
    let queries = c.args.queries.now in
    subst (AreAnswered c.args.file.now (take (c.loop-k.k + 1) queries)) (sym c.in_ok-put_line-in-Ok.ensures)
    (answered_at c.args.file.now queries c.loop-k.k _ (string_bytes c.loop-k.lines) c.in-Ok.answer
    (slice_get-get_or queries c.loop-k.k Count c.loop-k-test.true) c.loop-k.invariant c.in-Ok.ensures)

pub put_line-requires-clause-printable : goal.put_line-requires-clause-printable
put_line-requires-clause-printable c = answers_are_printable c.args.file.now _ c.in-Ok.answer c.in-Ok.ensures
