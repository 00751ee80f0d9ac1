use Rattle.std.proofs.Common.{sym, subst}
use Rattle.qm_words.specs.SeenWords.{bytes_of_words}
use Rattle.qm_words.specs.inner.TwoWords.{IsPairOf}
use Rattle.qm_words.proofs.PairAnswers.{pair_found, pair_refused}
use Rattle.qm_words.proofs.pairs.pair.Goals as goal

pub returns-in-Err : goal.returns-in-Err
returns-in-Err c = pair_refused c.args.verb.now (bytes_of_words c.args.words.now) c.in-Err.fault c.in-Err.ensures

pub returns-in-Ok : goal.returns-in-Ok
returns-in-Ok c =
    let words = bytes_of_words c.args.words.now in
    subst (IsPairOf words) (sym c.ok_or.ensures.value)
    (pair_found c.args.verb.now words c.in-Ok.matches c.found_pair.result (c.are_plain_words.ensures.0 c.if-not-are_plain_words.false) c.in-Ok.ensures c.found_pair.ensures)
