use Rattle.qm_solid_tree.proofs.TreeLaws.{gives_contents}
use Rattle.qm_build.proofs.laws.joining_keeps_contents.Goals as goal

pub returns : goal.returns
returns c = λ solids book planes has_planes tree is. gives_contents solids book tree planes has_planes is
