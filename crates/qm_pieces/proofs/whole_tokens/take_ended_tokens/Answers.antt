use Rattle.std.proofs.Common.{◌≡◌, ℕ, List, refl, subst, arith}
use Rattle.qm_tokens.specs.Lexeme.{lexeme_of}
use Rattle.qm_tokens.specs.Lexing.{lexeme_then}
use Rattle.qm_pieces.proofs.WholeTokens.{scan_begun, scan_line, scan_next, scan_refused, scan_ended}
use Rattle.qm_pieces.proofs.whole_tokens.take_ended_tokens.Goals as goal

pub scan-init : goal.scan-init
scan-init c =
    scan_begun c.args.piece.now c.args.line_ends c.args.reader.now c.new-lexer.result c.requires.blank c.new-lexer.ensures.text c.new-lexer.ensures.lexing c.new-lexer.ensures.within

pub overflow_add-line : goal.overflow_add-line
overflow_add-line c =
    let piece = c.args.piece.now in
    let reading = c.scan.lexer in
    let P : List ℕ → Type 0 = λ text. reading.left ≡ lexeme_then (lexeme_of text c.in-Ok-Some.token) c.next.new.self.left in
    let next = subst P c.scan.invariant.text_is (rw c.in-Ok-Some.field-0-is at c.in-Ok-Some.ensures.token) in
    let line = scan_line piece c.args.line_ends c.args.reader.now c.scan.taken c.scan.reader reading c.scan.invariant (lexeme_of piece c.in-Ok-Some.token) c.next.new.self.left next in
    omega (arith, line, c.requires.few)

pub scan-preserved : goal.scan-preserved
scan-preserved c =
    let piece = c.args.piece.now in
    let reading = c.scan.lexer in
    let P : List ℕ → Type 0 = λ text. reading.left ≡ lexeme_then (lexeme_of text c.in-Ok-Some.token) c.next.new.self.left in
    let next = subst P c.scan.invariant.text_is (rw c.in-Ok-Some.field-0-is at c.in-Ok-Some.ensures.token) in
    scan_next piece c.args.line_ends c.args.reader.now c.scan.taken c.scan.reader reading c.scan.invariant (lexeme_of piece c.in-Ok-Some.token) c.next.new.self.left next c.next.new.self c.accept.new.reader c.in-Ok-Some.ensures.text refl (c.in-Ok.ensures {u = tt})

pub returns-in-Err-accept-clause-scanned : goal.returns-in-Err-accept-clause-scanned
returns-in-Err-accept-clause-scanned c =
    let piece = c.args.piece.now in
    let reading = c.scan.lexer in
    let P : List ℕ → Type 0 = λ text. reading.left ≡ lexeme_then (lexeme_of text c.in-Ok-Some.token) c.next.new.self.left in
    let next = subst P c.scan.invariant.text_is (rw c.in-Ok-Some.field-0-is at c.in-Ok-Some.ensures.token) in
    λ text offset is fits other.
    scan_refused piece c.args.line_ends c.args.reader.now c.scan.taken c.scan.reader reading c.scan.invariant (lexeme_of piece c.in-Ok-Some.token) c.next.new.self.left next c.in-Err-accept.fault (c.in-Err-accept.ensures other) text offset is fits

pub returns-in-Ok-None-clause-scanned : goal.returns-in-Ok-None-clause-scanned
returns-in-Ok-None-clause-scanned c =
    let piece = c.args.piece.now in
    let reading = c.scan.lexer in
    let none = rw c.in-Ok-None.field-0-is at c.in-Ok-None.ensures.token in
    let found = c.last_line.ensures in
    λ text offset is fits.
    scan_ended piece c.args.line_ends c.args.reader.now c.scan.taken c.scan.reader reading c.scan.invariant none c.last_line.result found.further found.within found.ends text offset is fits
