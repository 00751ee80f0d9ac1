use Rattle.std.specs.Prelude.{string_bytes}
use Rattle.std.proofs.lemmas.Result.{IfOk-weaker}
use Rattle.qm_compile.proofs.RoomSummaries.{summed_up, never_leaking}
use Rattle.qm_compile.proofs.generating.sum_up_map.Goals as goal

pub unreachable-requires : goal.unreachable-requires
unreachable-requires g c =
    never_leaking c.args.map.now _ c.in-Leak.file c.in-Leak.entity c.in-Leak.trail c.requires.leaks_nowhere (rw c.in-Leak.is at c.in_ok-summary.ensures)

pub returns : goal.returns
returns g c =
    IfOk-weaker c.summary_text.result _ _
    (λ text printed. summed_up c.args.map.now c.in-Done.file c.in-Done.world c.in-Done.summary (rw c.in-Done.is at c.in_ok-summary.ensures) (string_bytes text) printed)
    c.summary_text.ensures
