use Rattle.qm_words.specs.SeenWords.{bytes_of_words}
use Rattle.qm_words.proofs.PairAnswers.{names_refused}
use Rattle.qm_words.proofs.pairs.two_names.Goals as goal

pub returns-in-Err : goal.returns-in-Err
returns-in-Err c = names_refused (bytes_of_words c.args.words.now) c.in-Err.fault c.in-Err.ensures
