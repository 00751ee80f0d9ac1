use Rattle.qm_solid_tree.proofs.OneDivision as division
use Rattle.qm_build.proofs.laws.one_tree.Goals as goal

pub returns : goal.returns
returns c = λ solids book tree other is its. division.one_tree solids book tree other is its
