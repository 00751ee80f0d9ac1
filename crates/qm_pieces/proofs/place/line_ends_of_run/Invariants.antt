use Rattle.std.proofs.Common.{◌≡◌, take}
use Rattle.qm_tokens.specs.Lexeme.{line_ends}
use Rattle.qm_pieces.proofs.place.line_ends_of_run.Given as goal

abbrev pub invariant-loop-byte : goal.invariant-loop-byte
invariant-loop-byte l = l.count ≡ line_ends (take l.byte-index l.run)
