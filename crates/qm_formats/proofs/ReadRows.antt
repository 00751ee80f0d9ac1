-- A row is read exactly where its spelling stands.
use Rattle.std.proofs.Common.{◌≡◌, ℕ, false, List, ◌++◌, length, Ok}
use Rattle.qm_lists.specs.Spelling.{SpellsRow}
use Rattle.qm_lists.proofs.FirstFaults.{row_or_fault}
use Rattle.qm_lists.proofs.ReadRuns as runs
use Rattle.qm_formats.specs.Fields.{AreBytes}
use Rattle.qm_formats.specs.Runs.{row_read, read_runs}

pub read_runs_again : (bytes row rest : List ℕ) (width : ℕ) → SpellsRow bytes row → length row ≡ width → read_runs width (bytes ++ rest) ≡ Ok (row, length bytes)
unfolding read_runs row_read row_or_fault
read_runs_again bytes row rest width h long = runs.read_runs_again bytes row rest width h long

pub read_runs_found : (width : ℕ) (bytes : List ℕ) (x : List ℕ × ℕ) → AreBytes bytes → read_runs width bytes ≡ Ok x → runs.IsReadDue width false bytes x.0 x.1
unfolding read_runs row_read row_or_fault
read_runs_found width bytes x are h = runs.read_runs_found width bytes x are h
