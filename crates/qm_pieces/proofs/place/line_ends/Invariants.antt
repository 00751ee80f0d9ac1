use Rattle.std.proofs.Common.{◌≡◌, ◌≤◌, ◌-◌, length, take}
use Rattle.qm_tokens.specs.Lexeme.{line_ends}
use Rattle.qm_pieces.proofs.place.line_ends.Given as goal

abbrev pub invariant-loop-counted : goal.invariant-loop-counted
invariant-loop-counted l = record {
  within : l.counted ≤ length l.bytes;
  value : l.count ≡ line_ends (take l.counted l.bytes);
}

abbrev pub decreases-loop-counted : goal.decreases-loop-counted
decreases-loop-counted l = length l.bytes - l.counted
