use Rattle.qm_separators.proofs.ChainLaws.{sight_in_bound, bound_in_coarse}
use Rattle.qm_sight.proofs.laws.bounds_lie_between.Goals as goal

pub returns-clause-sight : goal.returns-clause-sight
returns-clause-sight c = λ tree touchings p n have are listed sight. sight_in_bound tree have touchings are p n listed sight

pub returns-clause-coarse : goal.returns-clause-coarse
returns-clause-coarse c = λ tree touchings p n have are listed bound. bound_in_coarse tree have touchings are p n listed bound
