use Rattle.std.specs.Prelude.{ℕ, ◌+◌, ◌&&◌, ◌==◌, List, length, drop, Result, Ok, Err}
use Rattle.qm_lists.specs.Spelling.{RunFaultKind, short, zero_count, split_run, overrun, runs_of}
use Rattle.qm_lists.specs.RowRead.{IsRowReadOfBytes}
use Rattle.qm_lists.proofs.FirstFaults.{row_or_fault}
use Rattle.qm_formats.specs.Layout.{Decoded, got, bad, Layout}
use Rattle.qm_formats.specs.Fields.{are_bytes}

-- A row stands in a file in runs.

-- what is read of a row of a width: the answer that there is to such bytes, with this said of it; it does not matter how it is
-- found
unfoldable pub row_read : (width : ℕ) (bytes : List ℕ) → (answer : Result (List ℕ × ℕ) RunFaultKind) × IsRowReadOfBytes width bytes answer
row_read width bytes = row_or_fault width bytes

-- the answer
unfoldable pub read_runs : ℕ → List ℕ → Result (List ℕ × ℕ) RunFaultKind
read_runs width bytes = (row_read width bytes).0

-- what reading a row answers at a place of a file, where a fault of its form stands at the row's own place
abbrev pub row_answer : {F : Type 0} → F → F → List ℕ → ℕ → Result (List ℕ × ℕ) RunFaultKind → Decoded F (List ℕ)
row_answer end form file at (Ok read) = got read.0 (at + read.1)
row_answer end form file at (Err short) = bad end (length file)
row_answer end form file at (Err zero_count) = bad form at
row_answer end form file at (Err split_run) = bad form at
row_answer end form file at (Err overrun) = bad form at

-- the bytes of a row, in runs
unfoldable pub in_runs : {F : Type 0} → F → F → ℕ → Layout F (List ℕ)
in_runs end form width =
    record {
      bytes_of = runs_of;
      right = λ row. (length row == width) && are_bytes row;
      read = λ file at. row_answer end form file at (read_runs width (drop at file));
    }
