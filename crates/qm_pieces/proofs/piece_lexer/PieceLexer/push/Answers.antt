use Rattle.std.proofs.Common.{ℕ, ◌+◌, ◌∷◌, [], Option, sym, subst}
use Rattle.qm_tokens.specs.Lexeme.{line_ends}
use Rattle.qm_pieces.specs.LexingState.{LexingState}
use Rattle.qm_pieces.specs.inner.OpenToken.{mode_of, state_of}
use Rattle.qm_pieces.specs.Pushing.{IsBytePushed}
use Rattle.qm_pieces.proofs.Lexers.{pushed_is, has_lexed_behind}
use Rattle.qm_pieces.proofs.piece_lexer.PieceLexer.push.Goals as goal

pub returns-in-Ok-clause-lexed : goal.returns-in-Ok-clause-lexed
returns-in-Ok-clause-lexed c =
    let old = c.self.inside in
    let next = mode_of c.take.new.self in
    let taken : IsBytePushed (state_of (mode_of old.token) old.offset old.line_ends) c.args.byte c.in-Ok.token (state_of next (old.offset + 1) (old.line_ends + line_ends (c.args.byte ∷ []))) =
    pushed_is (mode_of old.token) next old.offset old.line_ends c.args.byte c.in-Ok.token (c.in-Ok.ensures {u = tt}) in
    let counted : IsBytePushed (state_of (mode_of old.token) old.offset old.line_ends) c.args.byte c.in-Ok.token (state_of next (old.offset + 1) (old.line_ends + c.line_ends.result)) =
    subst (λ (n : ℕ). IsBytePushed (state_of (mode_of old.token) old.offset old.line_ends) c.args.byte c.in-Ok.token (state_of next (old.offset + 1) (old.line_ends + n))) (sym c.line_ends.ensures.value) taken in
    let pushed : IsBytePushed c.args.self.now c.args.byte c.in-Ok.token (state_of next (old.offset + 1) (old.line_ends + c.line_ends.result)) =
    subst (λ (s : Option LexingState). IsBytePushed s c.args.byte c.in-Ok.token (state_of next (old.offset + 1) (old.line_ends + c.line_ends.result))) c.self.view_is counted in
    λ text given lexed. has_lexed_behind text given c.args.self.now (state_of next (old.offset + 1) (old.line_ends + c.line_ends.result)) c.args.byte c.in-Ok.token pushed lexed
