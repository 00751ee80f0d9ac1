use Rattle.qm_convex.proofs.Central.{none_in_front}
use Rattle.qm_wind.proofs.laws.none_in_front.Goals as goal

pub returns : goal.returns
returns c = λ v g x. none_in_front v g x
