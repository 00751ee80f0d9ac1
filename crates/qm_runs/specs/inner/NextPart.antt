use Rattle.std.specs.Prelude.{◌≡◌, ◌<◌, ◌≤◌, ℕ, zero, ◌-◌, Bool, false, nat_lt, List, length, take, drop, replicate}
use Rattle.qm_lists.specs.Spelling.{longest_run}
use Rattle.qm_lists.specs.inner.ReadRuns.{read_behind, read_due}
use Rattle.qm_runs.specs.declared.reading.Part.{Part}
use Rattle.qm_runs.specs.declared.reading.Part.TheVariants.{Bytes, Zeros}

-- so many bytes of the row, from that many of the file, are read before the rest
pub record ReadsPart (due : ℕ) (behind_run : Bool) (bytes part : List ℕ) (used : ℕ) (open_run : Bool) : Type 0 where
  pub some : 0 < length part
  pub fits : length part ≤ due
  pub there : used ≤ length bytes
  pub reads : read_due due behind_run bytes ≡ read_behind part used (read_due (due - length part) open_run (drop used bytes))

-- a row goes on with this part
abbrev pub IsNext : Part → ℕ → Bool → List ℕ → Type 0
IsNext (Bytes count) due behind_run bytes = ReadsPart due behind_run bytes (take count bytes) count false
IsNext (Zeros count) due behind_run bytes = ReadsPart due behind_run bytes (replicate count zero) 2 (nat_lt count longest_run)
