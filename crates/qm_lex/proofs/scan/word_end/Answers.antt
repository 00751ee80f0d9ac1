use Rattle.std.proofs.Common.{◌≡◌, length, slice_range, refl, ◌∙◌, arith}
use Rattle.qm_tokens.specs.inner.Modes.{between, in_word}
use Rattle.qm_tokens.proofs.ByteSteps.{word_goes_on, word_ends, read_at_end}
use Rattle.qm_lex.proofs.scan.word_end.Goals as goal

pub returns-then-next-le32 : goal.returns-then-next-le32
returns-then-next-le32 c = record {
  further = omega arith;
  in_text = omega arith;
  passed =
      λ line. c.loop-offset.invariant line ∙ word_ends c.args.text.now c.loop-offset.offset c.loop-offset-test.true (slice_range c.args.text.now c.args.start c.loop-offset.offset) c.args.start line line c.if-next-le32.true;
}

pub loop-offset-preserved : goal.loop-offset-preserved
loop-offset-preserved c =
    λ line. c.loop-offset.invariant line ∙ word_goes_on c.args.text.now c.loop-offset.offset c.loop-offset-test.true c.args.start line line (omega arith) (omega arith)

pub returns : goal.returns
returns c =
    let at_end : c.loop-offset.offset ≡ length c.args.text.now = omega arith in
    record {
      further = omega arith;
      in_text = omega arith;
      passed =
          λ line. c.loop-offset.invariant line ∙ read_at_end (in_word (slice_range c.args.text.now c.args.start c.loop-offset.offset) c.args.start line) c.loop-offset.offset line c.args.text.now c.loop-offset-test.false ∙ rw (at_end, read_at_end between (length c.args.text.now) line c.args.text.now (omega arith)) refl;
    }
