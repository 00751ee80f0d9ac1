use Rattle.std.proofs.Common.{take}
use Rattle.std.specs.Prelude.{All}
use Rattle.qm_tokens.specs.inner.Modes.{between}
use Rattle.qm_pieces.specs.inner.Keeping.{KeepsMode}
use Rattle.qm_pieces.proofs.open_token.blanks.Given as goal

abbrev pub invariant-loop-offset : goal.invariant-loop-offset
invariant-loop-offset l = All (KeepsMode between) (take l.offset l.bytes)
