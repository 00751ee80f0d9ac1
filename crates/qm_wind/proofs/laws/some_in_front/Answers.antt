use Rattle.qm_convex.proofs.Central.{some_in_front}
use Rattle.qm_wind.proofs.laws.some_in_front.Goals as goal

pub returns : goal.returns
returns c = λ v g x. some_in_front v g x
