use Rattle.std.proofs.Common.{◌≡◌, ◌<◌, ℕ, length}
use Rattle.qm_lists.specs.WorkList.{IsIn}
use Rattle.qm_bits.proofs.bit_row.BitRow.full.Given as goal

-- the places so far are set
abbrev pub invariant-loop-place : goal.invariant-loop-place
invariant-loop-place l = record {
  long : length l.row ≡ l.bits;
  all_set : (place : ℕ) → place < l.place → IsIn l.row place;
}
