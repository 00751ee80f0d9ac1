use Rattle.std.proofs.Common.{length, sym, ◌∙◌, arith}
use Rattle.qm_tokens.specs.inner.Modes.{between, in_comment}
use Rattle.qm_tokens.proofs.ByteSteps.{comment_goes_on, comment_ends, read_at_end}
use Rattle.qm_lex.proofs.scan.comment_end.Goals as goal

pub returns-then-candidate-eq10-clause-passed : goal.returns-then-candidate-eq10-clause-passed
returns-then-candidate-eq10-clause-passed c =
    λ line. c.loop-offset.invariant line ∙ comment_ends c.args.text.now c.loop-offset.offset c.loop-offset-test.true line c.if-candidate-eq10.true

pub loop-offset-preserved : goal.loop-offset-preserved
loop-offset-preserved c =
    λ line. c.loop-offset.invariant line ∙ comment_goes_on c.args.text.now c.loop-offset.offset c.loop-offset-test.true line c.if-candidate-eq10.false

pub returns-clause-passed : goal.returns-clause-passed
returns-clause-passed c =
    λ line. c.loop-offset.invariant line ∙ read_at_end in_comment c.loop-offset.offset line c.args.text.now c.loop-offset-test.false ∙ sym (read_at_end between (length c.args.text.now) line c.args.text.now (omega arith))
