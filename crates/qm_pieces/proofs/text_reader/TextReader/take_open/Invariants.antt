use Rattle.std.proofs.Common.{ℕ, List, ◌≤◌, ◌-◌, ◌++◌, length, take}
use Rattle.qm_pieces.specs.ReadSoFar.{IsReadOf}
use Rattle.qm_pieces.proofs.text_reader.TextReader.take_open.Given as goal

-- as much of the piece was read
abbrev pub invariant-loop-taken : goal.invariant-loop-taken
invariant-loop-taken l = record {
  within : l.taken ≤ length l.piece;
  read : (text : List ℕ) → IsReadOf text l.fn.self → IsReadOf (text ++ take l.taken l.piece) l.self;
}

abbrev pub decreases-loop-taken : goal.decreases-loop-taken
decreases-loop-taken l = length l.piece - l.taken
