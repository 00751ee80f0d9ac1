use Rattle.clap.specs.Matches.{found_of}
use Rattle.clap.specs.Walk.{rows_of}
use Rattle.qm_words.specs.SeenWords.{bytes_of_words}
use Rattle.qm_words.proofs.InspectAnswers.{found_of_inspect, inspect_refused, not_plain}
use Rattle.qm_words.proofs.SingleWords.{none_true}
use Rattle.qm_words.proofs.WordsAnswers.{answer_order}
use Rattle.qm_words.proofs.inspect.inspect_order.Goals as goal

pub returns-then-not-are_plain_words : goal.returns-then-not-are_plain_words
returns-then-not-are_plain_words c =
    not_plain (bytes_of_words c.args.words.now) (λ each. none_true c.are_plain_words.result c.if-not-are_plain_words.true (c.are_plain_words.ensures.1 each))

pub returns-in-Err : goal.returns-in-Err
returns-in-Err c = inspect_refused (bytes_of_words c.args.words.now) c.in-Err.fault c.in-Err.ensures

pub returns-in-Ok : goal.returns-in-Ok
returns-in-Ok c =
    let words = bytes_of_words c.args.words.now in
    let plain = c.are_plain_words.ensures.0 c.if-not-are_plain_words.false in
    answer_order words (rows_of (found_of c.in-Ok.matches)) c.asked_answers.result plain (found_of_inspect words c.in-Ok.matches plain c.in-Ok.ensures) c.asked_answers.ensures
