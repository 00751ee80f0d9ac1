use Rattle.clap.specs.Matches.{found_of}
use Rattle.clap.specs.Walk.{rows_of}
use Rattle.qm_words.specs.SeenWords.{bytes_of_words}
use Rattle.qm_words.proofs.CompileAnswers.{answer_compile, found_of_words, no_single, refused_or_memory}
use Rattle.qm_words.proofs.SingleWords.{none_true}
use Rattle.qm_words.proofs.compile.compile_order.Goals as goal

pub returns-then-not-are_compile_words : goal.returns-then-not-are_compile_words
returns-then-not-are_compile_words c =
    no_single (bytes_of_words c.args.words.now) (λ each. none_true c.are_compile_words.result c.if-not-are_compile_words.true (c.are_compile_words.ensures.1 each))

pub returns-in-Err : goal.returns-in-Err
returns-in-Err c = refused_or_memory (bytes_of_words c.args.words.now) c.in-Err.fault c.in-Err.ensures

pub returns-in-Ok : goal.returns-in-Ok
returns-in-Ok c =
    let words = bytes_of_words c.args.words.now in
    let taken = found_of_words words c.in-Ok.matches (c.are_compile_words.ensures.0 c.if-not-are_compile_words.false) c.in-Ok.ensures in
    answer_compile words (rows_of (found_of c.in-Ok.matches)) c.asked_order.result taken c.asked_order.ensures
