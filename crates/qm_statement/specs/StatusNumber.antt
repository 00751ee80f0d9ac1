use Rattle.std.specs.Prelude.{ℕ}
use Rattle.qm_statement.specs.declared.status.Status.{Status}
use Rattle.qm_statement.specs.declared.status.Status.TheVariants.{Done, Usage, Leak, MapFault, ReadFault, WriteFault, Memory, TreeFault, QueryRefused}

-- the exit status of the program
abbrev pub status_number : Status → ℕ
status_number Done = 0
status_number Usage = 2
status_number Leak = 3
status_number MapFault = 4
status_number ReadFault = 5
status_number WriteFault = 6
status_number Memory = 7
status_number TreeFault = 8
status_number QueryRefused = 9
