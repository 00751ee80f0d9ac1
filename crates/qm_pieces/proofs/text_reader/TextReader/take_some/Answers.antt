use Rattle.std.proofs.Common.{◌≡◌, ℕ, List, ◌++◌, take, subst, arith}
use Rattle.qm_pieces.specs.ReadSoFar.{IsReadOf}
use Rattle.qm_pieces.proofs.ReadersSoFar.{piece_certain, piece_more}
use Rattle.qm_pieces.proofs.text_reader.TextReader.take_some.Goals as goal

pub returns-in-Ok-clause-read : goal.returns-in-Ok-clause-read
returns-in-Ok-clause-read c =
    let bytes = c.args.bytes.now in
    let none : c.pass-passed.result ≡ 0 = omega arith in
    λ text is.
    let first = subst (λ (n : ℕ). IsReadOf (text ++ take n bytes) c.pass-passed.new.self) none (c.pass-passed.ensures.passed text is) in
    subst (λ (t : List ℕ). IsReadOf t c.take.new.self) (piece_more text bytes 0 c.requires) (c.in-Ok.ensures {u = tt} (text ++ take 0 bytes) first)

pub returns-in-Err-clause-read : goal.returns-in-Err-clause-read
returns-in-Err-clause-read c =
    let bytes = c.args.bytes.now in
    let none : c.pass-passed.result ≡ 0 = omega arith in
    λ text is other.
    let first = subst (λ (n : ℕ). IsReadOf (text ++ take n bytes) c.pass-passed.new.self) none (c.pass-passed.ensures.passed text is) in
    piece_certain text bytes 0 c.requires c.in-Err.fault (c.in-Err.ensures {u = tt} (text ++ take 0 bytes) first other)
