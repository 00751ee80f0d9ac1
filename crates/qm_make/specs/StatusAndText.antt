use Rattle.std.specs.Prelude.{ℕ, List, string_bytes}
use Rattle.qm_make.specs.declared.outcome.Outcome.{Outcome}
use Rattle.qm_make.specs.declared.outcome.Outcome.TheVariants.{Done, Leak, ReadFault, MapFault, WriteFault}
use Rattle.qm_statement.specs.declared.status.Status.{Status}
use Rattle.qm_statement.specs.declared.status.Status.TheVariants as status
use Rattle.qm_statement.specs.Texts.{read_fault_text, write_fault_text}

-- What is due once a command has come to its end.

-- the status of what came of it
abbrev pub due_status : Outcome → Status
due_status (Done summary) = status.Done
due_status (Leak text) = status.Leak
due_status ReadFault = status.ReadFault
due_status (MapFault text) = status.MapFault
due_status WriteFault = status.WriteFault

-- the text that is printed of it
abbrev pub due_text : Outcome → List ℕ
due_text (Done summary) = string_bytes summary
due_text (Leak text) = string_bytes text
due_text ReadFault = read_fault_text
due_text (MapFault text) = string_bytes text
due_text WriteFault = write_fault_text
