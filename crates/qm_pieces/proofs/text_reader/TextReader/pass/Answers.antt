use Rattle.std.proofs.Common.{length, sym, subst, arith}
use Rattle.qm_pieces.specs.ReadSoFar.{ReadSoFar, IsReadOf, prefix_so_far}
use Rattle.qm_pieces.proofs.ReadersSoFar.{bytes_read, room_below}
use Rattle.qm_pieces.proofs.text_reader.TextReader.pass.Goals as goal

pub returns-clause-passed : goal.returns-clause-passed
returns-clause-passed c =
    let old = c.self.inside in
    λ text is.
    bytes_read text c.args.bytes.now c.pass.result (prefix_so_far old.tokens.reader) old.lexer c.pass.new.self
    (subst (λ (s : ReadSoFar). IsReadOf text s) (sym c.self.view_is) is)
    (room_below old.lexer c.offset.result (length c.args.bytes.now) c.offset.ensures c.self.invariant (omega arith)) c.pass.ensures.passed
