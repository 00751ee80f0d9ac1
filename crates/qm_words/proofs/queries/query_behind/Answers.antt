use Rattle.std.proofs.Common.{rules, ◌≡◌, ◌++◌, codes}
use Rattle.qm_words.proofs.QueryAnswers.{none_spelled}
use Rattle.qm_words.proofs.queries.query_behind.Goals as goal

pub returns-in-Some-strip_prefix-4-clause-none : goal.returns-in-Some-strip_prefix-4-clause-none
returns-in-Some-strip_prefix-4-clause-none c =
    let same : c.args.word.now ≡ codes "hulltrace=1," ++ c.in-Some-strip_prefix-4.text.now = search rules in
    none_spelled c.args.word.now _ same c.hull_trace.result c.hull_trace.ensures.none

pub returns-in-Some-strip_prefix-5-clause-none : goal.returns-in-Some-strip_prefix-5-clause-none
returns-in-Some-strip_prefix-5-clause-none c =
    let same : c.args.word.now ≡ codes "hulltrace=2," ++ c.in-Some-strip_prefix-5.text.now = search rules in
    none_spelled c.args.word.now _ same c.hull_trace-in-Some-strip_prefix-5.result c.hull_trace-in-Some-strip_prefix-5.ensures.none
