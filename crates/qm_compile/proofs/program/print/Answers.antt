use Rattle.std.proofs.Common.{◌++◌, ◌∙◌, ap, sym, subst, List, ℕ}
use Rattle.std.specs.Prelude.{IsTrue}
use Rattle.qm_shelf.specs.SeenForms.{sink_state}
use Rattle.qm_statement.specs.declared.status.Status.{Status}
use Rattle.qm_compile.specs.inner.Printed.{EndsWith, whole, failed, no_room}
use Rattle.qm_compile.proofs.program.print.Goals as goal

pub returns-in-Ok : goal.returns-in-Ok
returns-in-Ok g c =
    let sink = g.S.Sink in
    let wrote = c.in-Ok.ensures in
    let printed = λ (tells : IsTrue sink.tells). wrote.bytes tells ∙ ap (λ (text : List ℕ). sink.written c.args.out.now ++ text) c.text.ensures in
    subst (λ (status : Status). EndsWith (sink_state sink c.args.out.now) (sink_state sink c.write.new.self) c.args.report.now status) (sym c.status.ensures)
    (whole (record { printed = printed; faults = wrote.faults_counted }))

pub returns-in-Err-Failed : goal.returns-in-Err-Failed
returns-in-Err-Failed g c =
    let wrote = rw (c.in-Err-Failed.field-0-is, c.text.ensures) at c.in-Err-Failed.ensures in
    failed wrote.faults_counted wrote.bytes

pub returns-in-Err-Memory : goal.returns-in-Err-Memory
returns-in-Err-Memory g c =
    let wrote = rw (c.in-Err-Memory.field-0-is, c.text.ensures) at c.in-Err-Memory.ensures in
    no_room wrote.faults_counted wrote.bytes
