use Rattle.qm_space.proofs.Cubes.{wall_x_reduced, wall_y_reduced, wall_z_reduced, mirrored_reduced}
use Rattle.qm_space.specs.Cube.{wall_x, wall_y, wall_z}
use Rattle.qm_half_spaces.proofs.axial.axial_bounds.Goals as goal

pub wall-requires : goal.wall-requires
wall-requires c = wall_x_reduced

pub wall-requires-2 : goal.wall-requires-2
wall-requires-2 c = wall_y_reduced

pub wall-requires-3 : goal.wall-requires-3
wall-requires-3 c = wall_z_reduced

pub wall-requires-4 : goal.wall-requires-4
wall-requires-4 c = mirrored_reduced wall_x wall_x_reduced

pub wall-requires-5 : goal.wall-requires-5
wall-requires-5 c = mirrored_reduced wall_y wall_y_reduced

pub wall-requires-6 : goal.wall-requires-6
wall-requires-6 c = mirrored_reduced wall_z wall_z_reduced
