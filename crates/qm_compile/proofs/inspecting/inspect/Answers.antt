use Rattle.qm_compile.proofs.Inspected.{asked, unasked}
use Rattle.qm_compile.proofs.inspecting.inspect.Goals as goal

pub ask-requires : goal.ask-requires
ask-requires g c = c.in-Ok.ensures.0.is_file.valid

pub returns-in-Ok : goal.returns-in-Ok
returns-in-Ok g c = asked _ _ _ _ c.in-Ok.file c.in-Ok.ensures c.ask.result c.ask.ensures

pub returns-in-Err : goal.returns-in-Err
returns-in-Err g c = unasked _ _ _ _ c.in-Err.none c.in-Err.ensures c.report_of.result c.report_of.ensures
