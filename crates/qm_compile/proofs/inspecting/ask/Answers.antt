use Rattle.std.proofs.lemmas.Result.{IfOk-weaker}
use Rattle.qm_compile.specs.inner.FileReport.{all_lines}
use Rattle.qm_compile.specs.inner.Reported.{reported_status, reported_text}
use Rattle.qm_compile.proofs.Inspected.{refused}
use Rattle.qm_compile.proofs.inspecting.ask.Goals as goal

pub returns-in-Ok-Lines : goal.returns-in-Ok-Lines
returns-in-Ok-Lines c = all_lines (rw c.in-Ok-Lines.field-0-is at c.in-Ok-Lines.ensures)

pub returns-in-Ok-Refused : goal.returns-in-Ok-Refused
returns-in-Ok-Refused c =
    IfOk-weaker c.refused.result _ _
    (λ report is. refused c.args.file.now c.args.queries.now (reported_status report) (reported_text report) c.in-Ok-Refused.number c.in-Ok-Refused.fault (rw c.in-Ok-Refused.field-0-is at c.in-Ok-Refused.ensures) is.0 is.1)
    c.refused.ensures
