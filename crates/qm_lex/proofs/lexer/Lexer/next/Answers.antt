use Rattle.std.proofs.Common.{◌∙◌, arith}
use Rattle.qm_tokens.specs.inner.Modes.{between}
use Rattle.qm_tokens.proofs.ByteSteps.{read_at_end}
use Rattle.qm_lex.proofs.lexer.Lexer.next.Goals as goal

-- only a gap was left
pub returns-then-position-self-clause-token : goal.returns-then-position-self-clause-token
returns-then-position-self-clause-token c =
    let found = c.gap_end-position in
    rw (← c.self.view_is) (found.ensures.same_left ∙ read_at_end between found.result.offset found.result.line c.self.inside.text.now (omega arith))
