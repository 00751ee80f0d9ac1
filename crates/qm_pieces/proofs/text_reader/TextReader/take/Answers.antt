use Rattle.std.proofs.Common.{sym, subst}
use Rattle.qm_pieces.specs.ReadSoFar.{ReadSoFar, IsReadOf, prefix_so_far}
use Rattle.qm_pieces.proofs.ReadersSoFar.{byte_read, below_limit}
use Rattle.qm_pieces.proofs.text_reader.TextReader.take.Goals as goal

pub returns-in-Ok : goal.returns-in-Ok
returns-in-Ok c =
    let old = c.self.inside in
    λ text is.
    byte_read text (prefix_so_far old.tokens.reader) (prefix_so_far c.accept_token.new.self.reader) c.args.byte old.lexer c.push.new.self c.in-Ok.token c.accept_token.result
    (subst (λ (s : ReadSoFar). IsReadOf text s) (sym c.self.view_is) is)
    (below_limit old.lexer c.offset.result c.offset.ensures c.if-offset.false)
    (c.in-Ok.ensures {u = tt}).pushed c.accept_token.ensures
