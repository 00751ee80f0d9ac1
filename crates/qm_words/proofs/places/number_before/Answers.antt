use Rattle.qm_words.proofs.PlaceLaws.{no_number_first, no_number_split}
use Rattle.qm_words.proofs.SingleWords.{if_none}
use Rattle.qm_words.proofs.places.number_before.Goals as goal

pub returns-in_err-first-clause-none : goal.returns-in_err-first-clause-none
returns-in_err-first-clause-none c = if_none c.from_residual.result _ (no_number_split c.args.text.now c.in_err-first.ensures.none)

pub returns-in_err-n-clause-none : goal.returns-in_err-n-clause-none
returns-in_err-n-clause-none c =
    if_none c.from_residual-in_err-n.result _ (no_number_first c.args.text.now c.in_ok-first.first.now c.in_ok-first.rest.now c.in_ok-first.ensures.some c.in_err-n.ensures.none)
