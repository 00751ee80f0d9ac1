use Rattle.std.proofs.Common.{◌≡◌, ◌∙◌, List, ℕ, ap, sym, subst, Some, Ok, Err}
use Rattle.qm_tokens.specs.Lexeme.{lexeme_of}
use Rattle.qm_tokens.specs.Lexing.{lexeme_then, fault_line}
use Rattle.qm_grammar.specs.Prefix.{Prefix}
use Rattle.qm_grammar.specs.inner.Machine.{ended}
use Rattle.qm_map.proofs.Meanings.{IsUnderway, begun, lexing_is, refused_is, ended_is, unclosed_is}
use Rattle.qm_map.proofs.text.take_tokens.Goals as goal

pub tokens-init : goal.tokens-init
tokens-init c =
    let P : Prefix → Type 0 = λ prefix. IsUnderway c.args.text.now prefix c.new-lexer.result in
    subst P (sym c.requires)
    (begun c.args.text.now c.new-lexer.result c.new-lexer.ensures.text (lexing_is c.args.text.now c.new-lexer.result.left c.new-lexer.ensures.only))

pub returns-in-Err-take-clause-fault : goal.returns-in-Err-take-clause-fault
returns-in-Err-take-clause-fault c =
    λ other.
    let refused = c.in-Err-take.ensures other in
    let left = rw c.in-Ok-Some.field-0-is at c.in-Ok-Some.ensures.token in
    let P : List ℕ → Type 0 = λ text. c.tokens.lexer.left ≡ lexeme_then (lexeme_of text c.in-Ok-Some.token) c.next.new.self.left in
    refused_is c.args.text.now c.tokens.reader c.tokens.lexer c.next.new.self.left _ refused.reason c.tokens.invariant
    (subst P c.tokens.invariant.text_is left) refused.refused ∙ sym (ap Err refused.fault_is)

pub returns-in-Ok-None-clause-over : goal.returns-in-Ok-None-clause-over
returns-in-Ok-None-clause-over c =
    ended_is c.args.text.now c.tokens.reader c.tokens.lexer c.tokens.invariant (rw c.in-Ok-None.field-0-is at c.in-Ok-None.ensures.token)

pub returns-in-Err-clause-over : goal.returns-in-Err-clause-over
returns-in-Err-clause-over c =
    unclosed_is c.args.text.now c.tokens.reader c.tokens.lexer (fault_line c.in-Err.fault) c.tokens.invariant c.in-Err.ensures.fault
    ∙ ap (λ line. ended c.args.text.now (Some line) (Ok c.tokens.reader)) (sym c.quote_line.ensures)
