use Rattle.qm_solid_tree.proofs.UniformLeaves as cells
use Rattle.qm_build.proofs.laws.inside_or_outside.Goals as goal

pub returns : goal.returns
returns c = λ solids book cell planes none solid listed full not_outdone.
    cells.inside_or_outside solids book cell planes none solid listed full not_outdone
