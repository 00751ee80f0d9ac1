use Rattle.qm_convex.proofs.Central.{lies_in}
use Rattle.qm_wind.proofs.laws.lies_in.Goals as goal

pub returns : goal.returns
returns c = λ v g x. lies_in v g x
