use Rattle.qm_space.proofs.Cubes.{wall_y_reduced}
use Rattle.qm_wind.proofs.walls.wall_y.Goals as goal

pub invariant_of-result : goal.invariant_of-result
invariant_of-result c = wall_y_reduced
