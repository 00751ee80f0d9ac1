use Rattle.std.proofs.Common.{Option, subst}
use Rattle.qm_pieces.specs.LexingState.{LexingState}
use Rattle.qm_pieces.specs.inner.OpenToken.{mode_of}
use Rattle.qm_pieces.specs.Pushing.{IsEndOf}
use Rattle.qm_pieces.proofs.Lexers.{end_of_state, lexed_end}
use Rattle.qm_pieces.proofs.piece_lexer.PieceLexer.finish.Goals as goal

pub returns-clause-end : goal.returns-clause-end
returns-clause-end c =
    subst (λ (s : Option LexingState). IsEndOf s c.finish.result) c.self.view_is (end_of_state (mode_of c.self.inside.token) c.self.inside.offset c.self.inside.line_ends c.finish.result c.finish.ensures)

pub returns-clause-lexing : goal.returns-clause-lexing
returns-clause-lexing c =
    let ends : IsEndOf c.args.self c.finish.result = subst (λ (s : Option LexingState). IsEndOf s c.finish.result) c.self.view_is (end_of_state (mode_of c.self.inside.token) c.self.inside.offset c.self.inside.line_ends c.finish.result c.finish.ensures) in
    λ text given lexed. lexed_end text given c.args.self c.finish.result ends lexed
