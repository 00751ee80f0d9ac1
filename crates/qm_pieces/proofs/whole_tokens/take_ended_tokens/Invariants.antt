use Rattle.std.proofs.Common.{length}
use Rattle.qm_pieces.proofs.WholeTokens.{IsScanning}
use Rattle.qm_pieces.proofs.whole_tokens.take_ended_tokens.Given as goal

-- so many bytes were taken, and this is left of the piece
abbrev pub invariant-scan : goal.invariant-scan
invariant-scan l = IsScanning l.piece l.line_ends l.fn.reader l.taken l.reader l.lexer

abbrev pub decreases-scan : goal.decreases-scan
decreases-scan l = length l.lexer.left.lexemes
