use Rattle.std.specs.Prelude.{ℕ, zero, suc, ◌+◌, ◌-◌, Bool, true, false, nat_lt, List, [], ◌∷◌, ◌++◌, replicate, Result, Ok, Err, if◌then◌else◌}
use Rattle.qm_lists.specs.Spelling.{longest_run, RunFaultKind, short, zero_count, split_run, overrun}

-- A row is read run by run.

-- what is read with some bytes in front, and so many bytes more that it took
abbrev pub read_behind : List ℕ → ℕ → Result (List ℕ × ℕ) RunFaultKind → Result (List ℕ × ℕ) RunFaultKind
read_behind front used (Ok read) = Ok (front ++ read.0, used + read.1)
read_behind front used (Err fault) = Err fault

-- what is read of a row of which so many bytes are due, and how many bytes that takes: the first byte that no spelling
-- allows is a fault. Where a run stands before that could be longer, no run is allowed.
abbrev pub read_due : ℕ → Bool → List ℕ → Result (List ℕ × ℕ) RunFaultKind
read_due zero behind_run bytes = Ok ([], 0)
read_due (suc due) behind_run [] = Err short
read_due (suc due) behind_run (suc byte ∷ bytes) = read_behind (suc byte ∷ []) 1 (read_due due false bytes)
read_due (suc due) true (zero ∷ bytes) = Err split_run
read_due (suc due) false (zero ∷ []) = Err short
read_due (suc due) false (zero ∷ zero ∷ bytes) = Err zero_count
read_due (suc due) false (zero ∷ suc count ∷ bytes) =
    if nat_lt due count then Err overrun else read_behind (replicate (suc count) zero) 2 (read_due (due - count) (nat_lt (suc count) longest_run) bytes)
