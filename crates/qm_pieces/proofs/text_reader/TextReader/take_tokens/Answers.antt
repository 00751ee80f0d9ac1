use Rattle.std.proofs.Common.{sym, subst, arith}
use Rattle.qm_pieces.specs.ReadSoFar.{ReadSoFar, IsReadOf, prefix_so_far}
use Rattle.qm_pieces.proofs.WholeTokens.{read_at_place, read_to_place}
use Rattle.qm_pieces.proofs.text_reader.TextReader.take_tokens.Goals as goal

pub returns-in-Ok-clause-read : goal.returns-in-Ok-clause-read
returns-in-Ok-clause-read c =
    let old = c.self.inside in
    let place = c.in-Some.place in
    let told = c.in-Ok.ensures {u = tt} in
    λ text is.
    let here = read_at_place place old.lexer c.in-Some.ensures text (prefix_so_far old.tokens.reader) (subst (λ (s : ReadSoFar). IsReadOf text s) (sym c.self.view_is) is) in
    read_to_place c.behind.result c.go_on_from.new.self c.go_on_from.ensures text c.args.piece.now c.in-Ok.taken place.offset place.line_ends (prefix_so_far c.take_whole_tokens.new.self.reader) told.within c.behind.ensures.offset c.behind.ensures.line_ends
    (told.scanned text place.offset here (omega arith))

pub returns-in-Err-clause-read : goal.returns-in-Err-clause-read
returns-in-Err-clause-read c =
    let old = c.self.inside in
    let place = c.in-Some.place in
    let told = c.in-Err.ensures {u = tt} in
    λ text is other.
    let here = read_at_place place old.lexer c.in-Some.ensures text (prefix_so_far old.tokens.reader) (subst (λ (s : ReadSoFar). IsReadOf text s) (sym c.self.view_is) is) in
    told.scanned text place.offset here (omega arith) other
