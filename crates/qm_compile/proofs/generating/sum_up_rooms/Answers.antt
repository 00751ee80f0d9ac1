use Rattle.std.proofs.Common.{Err, ap}
use Rattle.std.specs.Prelude.{string_bytes}
use Rattle.std.proofs.lemmas.Result.{IfOk-weaker}
use Rattle.qm_gen.specs.declared.gen_fault.GenFault.{GenFault}
use Rattle.qm_compile.proofs.RoomSummaries.{summed_up_rooms}
use Rattle.qm_compile.proofs.generating.sum_up_rooms.Goals as goal

pub sum_up_map-requires-clause-leaks_nowhere : goal.sum_up_map-requires-clause-leaks_nowhere
sum_up_map-requires-clause-leaks_nowhere g c κs within = c.in-Ok.ensures.no_leak

pub unreachable-requires : goal.unreachable-requires
unreachable-requires g c =
    c.in-Err-SizeRange.ensures.size.0 (ap (λ (fault : GenFault). Err fault) c.in-Err-SizeRange.field-0-is) (c.requires.some, c.requires.few)

pub returns-in-Ok : goal.returns-in-Ok
returns-in-Ok g c =
    IfOk-weaker c.sum_up_map.result _ _
    (λ text is. summed_up_rooms c.args.count c.args.number c.in-Ok.map c.in-Ok.ensures.map.0 (string_bytes text) is)
    c.sum_up_map.ensures
