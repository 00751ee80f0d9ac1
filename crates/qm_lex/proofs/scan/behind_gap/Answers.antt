use Rattle.std.proofs.Common.{◌≡◌, ◌+◌, [], ◌∷◌, get_or, refl, ◌∙◌, add-zero, arith, rules}
use Rattle.qm_tokens.specs.Lexeme.{line_ends}
use Rattle.qm_tokens.proofs.ByteSteps.{blank_passed, comment_opens, line_ends_one}
use Rattle.qm_lex.proofs.scan.behind_gap.Goals as goal

pub returns-then-byte-eq32-clause-gap : goal.returns-then-byte-eq32-clause-gap
returns-then-byte-eq32-clause-gap c =
    let text = c.args.text.now in
    let position = c.args.position in
    let space : get_or text position.offset 0 ≡ 32 = search rules in
    let no_end : line_ends (get_or text position.offset 0 ∷ []) ≡ 0 = rw space refl in
    let passed = blank_passed text position.offset c.requires.in_text position.line (omega arith) in
    record {
      further = omega arith;
      position = record { in_text = omega arith; line_bound = omega arith };
      same_left = rw (no_end, add-zero) at passed;
    }

pub returns-then-byte-le32-clause-gap : goal.returns-then-byte-le32-clause-gap
returns-then-byte-le32-clause-gap c =
    let text = c.args.text.now in
    let position = c.args.position in
    let one = line_ends_one (get_or text position.offset 0) in
    record {
      further = omega arith;
      position = record { in_text = omega arith; line_bound = omega (arith, c.line_behind.ensures) };
      same_left = rw c.line_behind.ensures (blank_passed text position.offset c.requires.in_text position.line c.if-byte-le32.true);
    }

pub returns-then-opens_comment-clause-gap : goal.returns-then-opens_comment-clause-gap
returns-then-opens_comment-clause-gap c =
    let text = c.args.text.now in
    let position = c.args.position in
    let slashes : (get_or text position.offset 0 ≡ 47) × (get_or text (position.offset + 1) 0 ≡ 47) = search rules in
    record {
      further = omega arith;
      position = record { in_text = c.comment_end.ensures.in_text; line_bound = omega arith };
      same_left = comment_opens text position.offset position.line (omega arith) slashes.0 slashes.1 ∙ c.comment_end.ensures.passed position.line;
    }
