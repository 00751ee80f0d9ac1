use Rattle.std.proofs.Common.{◌≡◌, ◌≤◌, ◌++◌, ℕ, List, zero, drop, replicate}
use Rattle.qm_runs.proofs.writing.run_length.Given as goal

-- so many zeros have come
pub record HaveCome (row : List ℕ) (count place : ℕ) : Type 0 where
  pub counted : count ≡ place
  pub small : count ≤ 255
  pub zeros : row ≡ replicate count zero ++ drop count row

abbrev pub invariant-loop-byte : goal.invariant-loop-byte
invariant-loop-byte l = HaveCome l.row l.count l.byte-index
