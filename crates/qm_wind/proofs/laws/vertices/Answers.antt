use Rattle.qm_convex.proofs.Vertices.{vertices_as_corners}
use Rattle.qm_wind.proofs.laws.vertices.Goals as goal

pub returns : goal.returns
returns c = λ v x. vertices_as_corners v x
