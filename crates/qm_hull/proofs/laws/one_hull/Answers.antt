use Rattle.qm_hull.proofs.OneHull as hulls
use Rattle.qm_hull.proofs.laws.one_hull.Goals as goal

pub returns : goal.returns
returns c = λ map box file other is its. hulls.one_hull map box file other is its
