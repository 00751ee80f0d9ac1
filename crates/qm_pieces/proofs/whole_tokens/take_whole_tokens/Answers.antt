use Rattle.std.proofs.Common.{arith}
use Rattle.std.proofs.lemmas.List.{length-take}
use Rattle.qm_pieces.proofs.WholeTokens.{scanned_of_first}
use Rattle.qm_pieces.proofs.whole_tokens.take_whole_tokens.Goals as goal

pub returns-clause-scanned : goal.returns-clause-scanned
returns-clause-scanned c =
    let piece = c.args.piece.now in
    let count = c.last_blank.result in
    let taken = c.take_ended_tokens in
    λ text offset is fits.
    scanned_of_first text piece count offset c.args.line_ends taken.new.reader taken.result taken.ensures.within
    (taken.ensures.scanned text offset is (omega (arith, fits, length-take count piece)))
