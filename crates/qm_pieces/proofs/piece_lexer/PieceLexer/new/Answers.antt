use Rattle.std.proofs.Common.{[], Option, ap, sym, subst}
use Rattle.qm_tokens.specs.inner.Modes.{Mode}
use Rattle.qm_pieces.specs.Lexed.{HasLexed}
use Rattle.qm_pieces.specs.inner.OpenToken.{state_of}
use Rattle.qm_pieces.proofs.TextsSoFar.{lexed_at_start}
use Rattle.qm_pieces.proofs.piece_lexer.PieceLexer.new.Goals as goal

pub returns-clause-state : goal.returns-clause-state
returns-clause-state c = ap (λ (m : Option Mode). state_of m 0 0) c.new.ensures

pub returns-clause-lexed : goal.returns-clause-lexed
returns-clause-lexed c = subst (λ (m : Option Mode). HasLexed [] [] (state_of m 0 0)) (sym c.new.ensures) lexed_at_start
