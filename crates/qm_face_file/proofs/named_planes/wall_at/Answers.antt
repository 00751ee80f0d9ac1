use Rattle.qm_face_layout.proofs.Walls.{low_x, high_x, low_y, high_y, low_z, high_z}
use Rattle.qm_face_file.proofs.named_planes.wall_at.Goals as goal

pub wall-requires : goal.wall-requires
wall-requires c = low_x c.args.bound c.ranges.bound.fits

pub wall-requires-in-1 : goal.wall-requires-in-1
wall-requires-in-1 c = high_x c.args.bound c.ranges.bound.fits

pub wall-requires-in-2 : goal.wall-requires-in-2
wall-requires-in-2 c = low_y c.args.bound c.ranges.bound.fits

pub wall-requires-in-3 : goal.wall-requires-in-3
wall-requires-in-3 c = high_y c.args.bound c.ranges.bound.fits

pub wall-requires-in-4 : goal.wall-requires-in-4
wall-requires-in-4 c = low_z c.args.bound c.ranges.bound.fits

pub wall-requires-in-5 : goal.wall-requires-in-5
wall-requires-in-5 c = high_z c.args.bound c.ranges.bound.fits
