use Rattle.qm_convex.proofs.Squares.{corner_in_closed_cube}
use Rattle.qm_wind.proofs.laws.in_closed_cube.Goals as goal

pub returns : goal.returns
returns c = λ v i x h. corner_in_closed_cube v x i h
