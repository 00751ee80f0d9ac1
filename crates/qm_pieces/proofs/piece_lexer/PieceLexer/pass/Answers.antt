use Rattle.std.proofs.Common.{◌+◌, ◌<◌, ◌^◌, length, take, IfSome, Option, sym, subst, arith}
use Rattle.qm_pieces.specs.LexingState.{LexingState}
use Rattle.qm_pieces.specs.inner.Keeping.{AreBytesPassed}
use Rattle.qm_pieces.specs.inner.OpenToken.{mode_of, state_of}
use Rattle.qm_pieces.proofs.PassedBytes.{passed_is, passed_fit}
use Rattle.qm_pieces.proofs.piece_lexer.PieceLexer.pass.Goals as goal

pub behind-behind-requires-clause-fits : goal.behind-behind-requires-clause-fits
behind-behind-requires-clause-fits c =
    let old = c.self.inside in
    let bytes = c.args.bytes.now in
    let few = subst (λ (s : Option LexingState). IfSome s (λ state. state.offset + length bytes < 2 ^ 64)) (sym c.self.view_is) c.requires in
    passed_fit (mode_of old.token) old.offset old.line_ends (2 ^ 64) c.kept_by-passed.result bytes (omega arith) few c.kept_by-passed.ensures.kept

pub returns-clause-passed : goal.returns-clause-passed
returns-clause-passed c =
    let old = c.self.inside in
    let run = take c.kept_by-passed.result c.args.bytes.now in
    subst (λ (s : Option LexingState). AreBytesPassed s run (state_of (mode_of old.token) c.behind-behind.result.offset c.behind-behind.result.line_ends)) c.self.view_is
    (passed_is (mode_of old.token) old.offset old.line_ends c.behind-behind.result.offset c.behind-behind.result.line_ends run c.kept_by-passed.ensures.kept c.behind-behind.ensures.offset c.behind-behind.ensures.line_ends)
