use Rattle.qm_words.proofs.QueryAnswers.{no_trace}
use Rattle.qm_words.proofs.SingleWords.{if_none}
use Rattle.qm_words.proofs.queries.trace.Goals as goal

pub returns-in_err-from-clause-none : goal.returns-in_err-from-clause-none
returns-in_err-from-clause-none c = if_none c.from_residual.result _ (no_trace c.args.text.now c.in_err-from.ensures.none)
