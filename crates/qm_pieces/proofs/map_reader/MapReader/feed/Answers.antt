use Rattle.std.proofs.Common.{◌++◌, Ok, Err}
use Rattle.qm_pieces.proofs.ReadersSoFar.{stopped_certain, stopped_answer, reader_reads, read_answer}
use Rattle.qm_pieces.proofs.map_reader.MapReader.feed.Goals as goal

pub returns-in-Some-clause-certain : goal.returns-in-Some-clause-certain
returns-in-Some-clause-certain c =
    λ text is apart found.
    stopped_answer text c.args.piece.now c.in-Some.fault (stopped_certain text c.args.self.now c.self.inside.stopped c.self.inside.reader c.in-Some.fault c.self.view_is c.in-Some.is is) found

pub returns-in-Ok-clause-certain : goal.returns-in-Ok-clause-certain
returns-in-Ok-clause-certain c =
    λ text is apart found.
    read_answer (text ++ c.args.piece.now) c.take_piece.new.self (Ok tt)
    (c.in-Ok.ensures {u = tt} text (reader_reads text c.args.self.now c.self.inside.stopped c.self.inside.reader c.self.view_is c.in-None.is is)) apart found

pub returns-in-Err-clause-certain : goal.returns-in-Err-clause-certain
returns-in-Err-clause-certain c =
    λ text is apart found.
    read_answer (text ++ c.args.piece.now) c.take_piece.new.self (Err c.in-Err.fault)
    (c.in-Err.ensures {u = tt} text (reader_reads text c.args.self.now c.self.inside.stopped c.self.inside.reader c.self.view_is c.in-None.is is)) apart found
