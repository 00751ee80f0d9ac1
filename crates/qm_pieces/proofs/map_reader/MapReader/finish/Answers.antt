use Rattle.qm_pieces.proofs.ReadersSoFar.{stopped_certain, reader_reads, valid_answer, certain_now_text}
use Rattle.qm_pieces.proofs.map_reader.MapReader.finish.Goals as goal

pub returns-in-Some-clause-means : goal.returns-in-Some-clause-means
returns-in-Some-clause-means c =
    λ text is apart.
    certain_now_text text c.in-Some.fault (stopped_certain text c.args.self c.self.inside.stopped c.self.inside.reader c.in-Some.fault c.self.view_is c.in-Some.is is)

pub returns-in-None-clause-valid : goal.returns-in-None-clause-valid
returns-in-None-clause-valid c =
    λ text is.
    valid_answer text c.finish.result (c.finish.ensures text (reader_reads text c.args.self c.self.inside.stopped c.self.inside.reader c.self.view_is c.in-None.is is))
