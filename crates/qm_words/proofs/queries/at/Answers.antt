use Rattle.qm_words.proofs.QueryAnswers.{no_at}
use Rattle.qm_words.proofs.SingleWords.{if_none}
use Rattle.qm_words.proofs.queries.at.Goals as goal

pub returns-in_err-x-clause-none : goal.returns-in_err-x-clause-none
returns-in_err-x-clause-none c = if_none c.from_residual.result _ (no_at c.args.text.now c.in_err-x.ensures.none)
