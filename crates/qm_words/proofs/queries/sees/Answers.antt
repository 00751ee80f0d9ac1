use Rattle.qm_words.proofs.QueryAnswers.{no_sees_from, no_sees_split, no_sees_to, sees_is}
use Rattle.qm_words.proofs.SingleWords.{if_none}
use Rattle.qm_words.proofs.queries.sees.Goals as goal

pub returns-in_err-first-clause-none : goal.returns-in_err-first-clause-none
returns-in_err-first-clause-none c = if_none c.from_residual.result _ (no_sees_split c.args.text.now c.in_err-first.ensures.none)

pub returns-in_err-from-clause-none : goal.returns-in_err-from-clause-none
returns-in_err-from-clause-none c =
    if_none c.from_residual-in_err-from.result _ (no_sees_from c.args.text.now c.in_ok-first.first.now c.in_ok-first.second.now c.in_ok-first.ensures.some c.in_err-from.ensures.none)

pub returns-in_err-to-clause-none : goal.returns-in_err-to-clause-none
returns-in_err-to-clause-none c =
    if_none c.from_residual-in_err-to.result _ (no_sees_to c.args.text.now c.in_ok-first.first.now c.in_ok-first.second.now c.in_ok-first.ensures.some c.in_err-to.ensures.none)

pub returns-clause-some : goal.returns-clause-some
returns-clause-some c =
    sees_is c.args.text.now c.in_ok-first.first.now c.in_ok-first.second.now c.in_ok-first.ensures.some
    c.in_ok-from.from c.in_ok-to.to c.in_ok-from.ensures.some.0 c.in_ok-from.ensures.some.1 c.in_ok-to.ensures.some.0 c.in_ok-to.ensures.some.1
