use Rattle.qm_convex.proofs.Central.{wholly_in_front}
use Rattle.qm_wind.proofs.laws.wholly_in_front.Goals as goal

pub returns : goal.returns
returns c = λ v g x. wholly_in_front v g x
