use Rattle.std.proofs.Common.{length}
use Rattle.qm_map.proofs.Meanings.{IsUnderway}
use Rattle.qm_map.proofs.text.take_tokens.Given as goal

-- what is left of the tokens leads on to what the text means
abbrev pub invariant-tokens : goal.invariant-tokens
invariant-tokens l = IsUnderway l.text l.reader l.lexer

abbrev pub decreases-tokens : goal.decreases-tokens
decreases-tokens l = length l.lexer.left.lexemes
