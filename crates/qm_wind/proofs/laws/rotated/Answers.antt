use Rattle.qm_convex.proofs.Rotation.{rotated_same}
use Rattle.qm_wind.proofs.laws.rotated.Goals as goal

pub returns : goal.returns
returns c = λ v i x h. rotated_same v i x h
