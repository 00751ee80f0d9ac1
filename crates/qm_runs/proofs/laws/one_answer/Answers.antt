use Rattle.qm_runs.proofs.OneAnswer.{one_answer}
use Rattle.qm_runs.proofs.laws.one_answer.Goals as goal

pub returns : goal.returns
returns c = λ width bytes one other are is its. one_answer width bytes one other are is its
