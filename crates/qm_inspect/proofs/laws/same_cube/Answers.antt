use Rattle.qm_answers.proofs.UpgradedAnswers.{cube_of_bound}
use Rattle.qm_inspect.proofs.laws.same_cube.Goals as goal

pub returns : goal.returns
returns c = cube_of_bound
