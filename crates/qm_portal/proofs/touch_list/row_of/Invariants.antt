use Rattle.std.proofs.Common.{◌≡◌, ◌≤◌, ◌<◌, ℕ, false, length}
use Rattle.std.specs.Prelude.{slice_index_or}
use Rattle.qm_portal.proofs.touch_list.row_of.Given as goal

abbrev pub invariant-loop-i : goal.invariant-loop-i
invariant-loop-i l = record {
  same_length : length l.row ≡ length l.values;
  done : (k : ℕ) → k < l.i → slice_index_or l.row k false ≡ slice_index_or l.values k false;
  clear : (k : ℕ) → l.i ≤ k → slice_index_or l.row k false ≡ false;
}
