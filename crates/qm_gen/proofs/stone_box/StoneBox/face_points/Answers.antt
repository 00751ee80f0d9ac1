use Rattle.std.proofs.Common.{rules}
use Rattle.qm_rooms.specs.Boxes.{face_points}
use Rattle.qm_gen.proofs.stone_box.StoneBox.face_points.Goals as goal

pub returns : goal.returns
unfolding face_points
returns c = search rules
