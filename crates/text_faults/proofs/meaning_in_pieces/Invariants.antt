use Rattle.std.proofs.Common.{ℕ, List, ◌≤◌, ◌-◌, length}
use Rattle.qm_pieces.specs.ReadSoFar.{IsReaderOf}
use Rattle.text_faults.proofs.meaning_in_pieces.Given as goal

-- it is a reader of some text
abbrev pub invariant-loop-fed : goal.invariant-loop-fed
invariant-loop-fed l = record {
  within : l.fed ≤ length l.text;
  some : (text : List ℕ) × IsReaderOf text l.reader;
}

abbrev pub decreases-loop-fed : goal.decreases-loop-fed
decreases-loop-fed l = length l.text - l.fed
