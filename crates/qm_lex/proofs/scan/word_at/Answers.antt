use Rattle.std.proofs.Common.{◌∙◌, arith}
use Rattle.qm_tokens.proofs.ByteSteps.{word_opens, slice_one}
use Rattle.qm_lex.proofs.scan.word_at.Goals as goal

pub returns : goal.returns
returns c =
    let text = c.args.text.now in
    let position = c.args.position in
    let token = c.requires.token in
    let passed = rw (slice_one text position.offset token.in_text) at (c.word_end-end.ensures.passed position.line) in
    record {
      behind = record { in_text = c.word_end-end.ensures.in_text; line_bound = omega arith };
      ordered = omega arith;
      within = omega arith;
      next = word_opens text position.offset token.in_text position.line token.no_blank c.requires.no_quote token.no_comment ∙ passed;
    }
