use Rattle.qm_words.proofs.QueryAnswers.{no_hull}
use Rattle.qm_words.proofs.SingleWords.{if_none}
use Rattle.qm_words.proofs.queries.hull.Goals as goal

pub returns-in_err-x-clause-none : goal.returns-in_err-x-clause-none
returns-in_err-x-clause-none c = if_none c.from_residual.result _ (no_hull c.args.hull c.args.text.now c.requires c.in_err-x.ensures.none)
