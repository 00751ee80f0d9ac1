use Rattle.std.proofs.Common.{◌≤◌, ◌++◌, ◌∷◌, [], IfSome, sym, subst}
use Rattle.qm_grammar.specs.declared.fault.MapFault.{MapFault}
use Rattle.qm_grammar.specs.Faults.{text_limit}
use Rattle.qm_pieces.specs.Certain.{IsCertain}
use Rattle.qm_pieces.specs.ReadSoFar.{ReadSoFar, IsReadOf, prefix_so_far}
use Rattle.qm_pieces.proofs.ReadersSoFar.{limit_passed}
use Rattle.qm_pieces.proofs.text_reader.TextReader.pass_limit.Goals as goal

pub returns-in-Ok : goal.returns-in-Ok
returns-in-Ok c =
    let old = c.self.inside in
    λ text is apart.
    subst (λ (f : MapFault). IsCertain (text ++ c.args.byte ∷ []) f) (sym (c.limit_fault.ensures apart))
    (limit_passed text (prefix_so_far old.tokens.reader) c.args.byte c.line-line.result old.lexer c.push-pushed.new.self c.in-Ok.token
    (subst (λ (s : ReadSoFar). IsReadOf text s) (sym c.self.view_is) is)
    (subst (λ (s : ReadSoFar). IfSome s.lexer (λ state. text_limit ≤ state.offset)) (sym c.self.view_is) c.requires)
    c.line-line.ensures (c.in-Ok.ensures {u = tt}).pushed)
