use Rattle.std.specs.Prelude.{◌≡◌, ℕ, List, Result, Err}
use Rattle.qm_lists.specs.Spelling.{RunFaultKind, short, zero_count, split_run, overrun}
use Rattle.qm_runs.specs.declared.run_fault.RunFault.{RunFault}
use Rattle.qm_runs.specs.declared.run_fault.RunFault.TheVariants as faults

-- a fault is the one that reading gives, unless memory ran out
abbrev pub IsRunFault : RunFault → Result (List ℕ × ℕ) RunFaultKind → Type 0
IsRunFault faults.Short read = read ≡ Err short
IsRunFault faults.ZeroCount read = read ≡ Err zero_count
IsRunFault faults.SplitRun read = read ≡ Err split_run
IsRunFault faults.Overrun read = read ≡ Err overrun
IsRunFault faults.Memory read = Unit {0}
