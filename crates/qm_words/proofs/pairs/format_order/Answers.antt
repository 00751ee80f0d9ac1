use Rattle.qm_words.specs.SeenWords.{bytes_of_words}
use Rattle.qm_words.proofs.PairAnswers.{format_refused}
use Rattle.qm_words.proofs.pairs.format_order.Goals as goal

pub returns-in-Err : goal.returns-in-Err
returns-in-Err c = format_refused (bytes_of_words c.args.words.now) c.in-Err.fault c.in-Err.ensures
