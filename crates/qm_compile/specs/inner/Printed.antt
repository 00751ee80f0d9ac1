use Rattle.qm_surroundings.specs.SinkState.{SinkState}
use Rattle.qm_surroundings.specs.Printing.{IsPrinted, IsPartlyPrinted, PrintedWithoutFault, FailedToPrint}
use Rattle.qm_statement.specs.declared.status.Status.{Status}
use Rattle.qm_statement.specs.declared.status.Status.TheVariants.{WriteFault, Memory}
use Rattle.qm_compile.specs.declared.report.Report.{Report}
use Rattle.qm_compile.specs.inner.Reported.{reported_status, reported_text}

-- the status with which a report is printed: that of the report; or printing failed; or memory ran out
pub data EndsWith (before after : SinkState) (report : Report) : Status → Type 0 where
  whole : IsPrinted before after (reported_text report) → EndsWith before after report (reported_status report)
  failed : FailedToPrint before after → IsPartlyPrinted before after (reported_text report) → EndsWith before after report WriteFault
  no_room : PrintedWithoutFault before after → IsPartlyPrinted before after (reported_text report) → EndsWith before after report Memory
