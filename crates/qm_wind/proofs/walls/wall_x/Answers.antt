use Rattle.qm_space.proofs.Cubes.{wall_x_reduced}
use Rattle.qm_wind.proofs.walls.wall_x.Goals as goal

pub invariant_of-result : goal.invariant_of-result
invariant_of-result c = wall_x_reduced
