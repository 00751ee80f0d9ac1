use Rattle.qm_words.proofs.PlaceLaws.{no_from, no_to}
use Rattle.qm_words.proofs.SingleWords.{if_none}
use Rattle.qm_words.proofs.places.ends.Goals as goal

pub returns-in_err-from-clause-none : goal.returns-in_err-from-clause-none
returns-in_err-from-clause-none c = if_none c.from_residual.result _ (no_from c.args.text.now c.in_err-from.ensures.none)

pub returns-in_err-to-clause-none : goal.returns-in_err-to-clause-none
returns-in_err-to-clause-none c = if_none c.from_residual-in_err-to.result _ (no_to c.args.text.now c.in_ok-from.rest.now c.in_ok-from.from c.in_ok-from.ensures.some c.in_err-to.ensures.none)
