use Rattle.qm_blocking.proofs.MovingBoxes.{set_behind_all_moved}
use Rattle.qm_hull.proofs.laws.met_is_behind_moved_planes.Goals as goal

pub returns : goal.returns
returns c = λ box solid x met in_box inside. set_behind_all_moved box solid x met in_box inside
