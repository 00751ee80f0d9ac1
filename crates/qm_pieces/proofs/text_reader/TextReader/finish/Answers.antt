use Rattle.std.proofs.Common.{Ok, Err, refl, sym, subst}
use Rattle.qm_grammar.specs.declared.fault.MapFault.TheVariants as fault
use Rattle.qm_pieces.specs.declared.piece_fault.PieceFault.{PieceFault}
use Rattle.qm_pieces.specs.declared.piece_fault.PieceFault.TheVariants.{UnclosedQuote}
use Rattle.qm_pieces.specs.ReadSoFar.{ReadSoFar, IsReadOf, prefix_so_far}
use Rattle.qm_pieces.specs.Pushing.{IsEndOf}
use Rattle.qm_pieces.proofs.ReadersSoFar.{end_meant}
use Rattle.qm_pieces.proofs.text_reader.TextReader.finish.Goals as goal

pub returns-in-Ok : goal.returns-in-Ok
returns-in-Ok c =
    let old = c.self.inside in
    λ text is apart.
    end_meant text (record { lexer = old.lexer; prefix = prefix_so_far old.tokens.reader }) c.line-line.result (Ok c.in-Ok.last) c.finish-in-Ok.result
    (subst (λ (s : ReadSoFar). IsReadOf text s) (sym c.self.view_is) is)
    c.line-line.ensures (c.in-Ok.ensures {u = tt}).end c.finish-in-Ok.ensures apart

pub returns-in-Err-UnclosedQuote : goal.returns-in-Err-UnclosedQuote
returns-in-Err-UnclosedQuote c =
    let old = c.self.inside in
    let arm = c.in-Err-UnclosedQuote in
    λ text is apart.
    end_meant text (record { lexer = old.lexer; prefix = prefix_so_far old.tokens.reader }) c.line-line.result (Err (UnclosedQuote arm.line)) (Err (fault.UnclosedQuote arm.line))
    (subst (λ (s : ReadSoFar). IsReadOf text s) (sym c.self.view_is) is)
    c.line-line.ensures (subst (λ (f : PieceFault). IsEndOf old.lexer (Err f)) arm.field-0-is (arm.ensures {u = tt}).end) refl apart
