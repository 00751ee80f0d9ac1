use Rattle.qm_compiler.proofs.building.tree_of_brushes.Goals as goal

pub build_halves-requires-clause-filled : goal.build_halves-requires-clause-filled
build_halves-requires-clause-filled g c κs within = c.requires.filled

pub build-requires : goal.build-requires
build-requires g c = c.requires.filled
