use Rattle.qm_convex.proofs.Cutting.{parted, parts_make_whole}
use Rattle.qm_wind.proofs.laws.parted.Goals as goal

pub returns-clause-in_two : goal.returns-clause-in_two
returns-clause-in_two c = λ v g x front behind. parted v g x front behind

pub returns-clause-made_up : goal.returns-clause-made_up
returns-clause-made_up c = λ v g front behind x y. parts_make_whole v g front behind x y
