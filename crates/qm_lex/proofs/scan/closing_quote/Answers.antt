use Rattle.std.proofs.Common.{get_or, slice_range, refl, ◌∙◌, arith}
use Rattle.qm_tokens.specs.inner.Modes.{in_quote}
use Rattle.qm_tokens.proofs.ByteSteps.{quote_goes_on, quote_ends, read_at_end, line_ends_one, slice_none}
use Rattle.qm_lex.proofs.scan.closing_quote.Goals as goal

pub loop-offset-init : goal.loop-offset-init
loop-offset-init c = record { line_bound = c.requires.line_bound; same_left = rw (slice_none c.args.text.now c.args.from.offset) refl }

pub returns-then-byte-eq34-clause-closed : goal.returns-then-byte-eq34-clause-closed
returns-then-byte-eq34-clause-closed c =
    let text = c.args.text.now in
    let from = c.args.from in
    record {
      further = omega arith;
      in_text = c.loop-offset-test.true;
      line_bound = c.loop-offset.invariant.line_bound;
      passed = c.loop-offset.invariant.same_left ∙ quote_ends text c.loop-offset.offset c.loop-offset-test.true (slice_range text from.offset c.loop-offset.offset) from.offset from.line c.loop-offset.line c.if-byte-eq34.true;
    }

pub loop-offset-preserved : goal.loop-offset-preserved
loop-offset-preserved c =
    let text = c.args.text.now in
    let from = c.args.from in
    let one = line_ends_one (get_or text c.loop-offset.offset 0) in
    record {
      line_bound = omega (arith, c.line_behind-line.ensures);
      same_left = c.loop-offset.invariant.same_left ∙ rw c.line_behind-line.ensures (quote_goes_on text c.loop-offset.offset c.loop-offset-test.true from.offset from.line c.loop-offset.line (omega arith) c.if-byte-eq34.false);
    }

pub returns-clause-unclosed : goal.returns-clause-unclosed
returns-clause-unclosed c =
    let text = c.args.text.now in
    let from = c.args.from in
    c.loop-offset.invariant.same_left ∙ read_at_end (in_quote (slice_range text from.offset c.loop-offset.offset) from.offset from.line) c.loop-offset.offset c.loop-offset.line text c.loop-offset-test.false
