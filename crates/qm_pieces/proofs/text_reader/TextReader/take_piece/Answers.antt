use Rattle.std.proofs.Common.{◌-◌, ◌++◌, Err, length, take, drop}
use Rattle.qm_pieces.proofs.WholeTokens.{read_rest}
use Rattle.qm_pieces.proofs.text_reader.TextReader.take_piece.Goals as goal

pub returns-in-Err-take_tokens : goal.returns-in-Err-take_tokens
returns-in-Err-take_tokens c =
    let piece = c.args.piece.now in
    let begun = c.in-Ok.begun in
    λ text is.
    let first = (c.in-Ok.ensures {u = tt}).read text is in
    read_rest text piece begun c.take_tokens.new.self (Err c.in-Err-take_tokens.fault) ((c.in-Err-take_tokens.ensures {u = tt}).read (text ++ take begun piece) first)

pub returns : goal.returns
returns c =
    let piece = c.args.piece.now in
    let begun = c.in-Ok.begun in
    let rest = take (length piece - begun) (drop begun piece) in
    let taken = c.in-Ok-take_tokens.taken in
    λ text is.
    let first = (c.in-Ok.ensures {u = tt}).read text is in
    let second = (c.in-Ok-take_tokens.ensures {u = tt}).read (text ++ take begun piece) first in
    read_rest text piece begun c.take_bytes.new.self c.take_bytes.result
    (read_rest (text ++ take begun piece) rest taken c.take_bytes.new.self c.take_bytes.result
    (c.take_bytes.ensures ((text ++ take begun piece) ++ take taken rest) second))
