use Rattle.std.specs.Prelude.{ℕ, List, string_bytes}
use Rattle.qm_statement.specs.declared.status.Status.{Status}
use Rattle.qm_statement.specs.declared.status.Status.TheVariants as status
use Rattle.qm_statement.specs.Texts.{usage_text, read_fault_text}
use Rattle.qm_make.specs.StatusAndText.{due_status, due_text}
use Rattle.qm_compile.specs.declared.report.Report.{Report}
use Rattle.qm_compile.specs.declared.report.Report.TheVariants.{Usage, OfFiles, ReadFault, TreeFault, QueryRefused, Answered, SummedUp}

-- What is reported of the words.

-- the status of what came of them
abbrev pub reported_status : Report → Status
reported_status Usage = status.Usage
reported_status (OfFiles outcome) = due_status outcome
reported_status ReadFault = status.ReadFault
reported_status (TreeFault text) = status.TreeFault
reported_status (QueryRefused text) = status.QueryRefused
reported_status (Answered lines) = status.Done
reported_status (SummedUp text) = status.Done

-- the text that is printed of it
abbrev pub reported_text : Report → List ℕ
reported_text Usage = usage_text
reported_text (OfFiles outcome) = due_text outcome
reported_text ReadFault = read_fault_text
reported_text (TreeFault text) = string_bytes text
reported_text (QueryRefused text) = string_bytes text
reported_text (Answered lines) = lines.items
reported_text (SummedUp text) = string_bytes text
