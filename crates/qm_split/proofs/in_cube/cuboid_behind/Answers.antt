use Rattle.qm_split.proofs.FacesInCube.{all_left_twice}
use Rattle.qm_split.proofs.in_cube.cuboid_behind.Goals as goal

pub returns : goal.returns
returns c = all_left_twice c.args.outward.now c.whole.result c.left_behind-once.result c.left_behind.result c.whole.ensures c.left_behind-once.ensures c.left_behind.ensures
