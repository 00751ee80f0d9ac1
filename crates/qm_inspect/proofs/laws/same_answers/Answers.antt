use Rattle.qm_answers.proofs.UpgradedAnswers.{upgraded_answers}
use Rattle.qm_inspect.proofs.laws.same_answers.Goals as goal

pub returns : goal.returns
returns c = upgraded_answers
