use Rattle.std.proofs.Common.{◌∙◌, arith}
use Rattle.qm_tokens.proofs.ByteSteps.{quote_opens}
use Rattle.qm_lex.proofs.scan.token_at.Goals as goal

pub returns-in-Some : goal.returns-in-Some
returns-in-Some c =
    let text = c.args.text.now in
    let position = c.args.position in
    let closed = c.in-Some.ensures.closed in
    record {
      behind = record { in_text = omega (arith, closed.in_text); line_bound = omega (arith, closed.line_bound) };
      ordered = closed.further;
      within = omega (arith, closed.in_text);
      next = quote_opens text position.offset c.requires.token.in_text position.line c.if-text-position-ne34.false ∙ closed.passed;
    }

pub returns-in-None : goal.returns-in-None
returns-in-None c =
    quote_opens c.args.text.now c.args.position.offset c.requires.token.in_text c.args.position.line c.if-text-position-ne34.false ∙ c.in-None.ensures.unclosed
