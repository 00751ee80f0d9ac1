use Rattle.qm_convex.proofs.Central.{has_a_point}
use Rattle.qm_wind.proofs.laws.has_a_point.Goals as goal

pub returns : goal.returns
returns c = λ v x. has_a_point v x
