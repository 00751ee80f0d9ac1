use Rattle.qm_space.proofs.Cubes.{wall_z_reduced}
use Rattle.qm_wind.proofs.walls.wall_z.Goals as goal

pub invariant_of-result : goal.invariant_of-result
invariant_of-result c = wall_z_reduced
