use Rattle.std.proofs.Common.{subst}
use Rattle.qm_convex.specs.Vertex.{HasVerticesAsCorners}
use Rattle.qm_convex.proofs.Vertices.{vertices_as_corners}
use Rattle.qm_wind.proofs.winding.Winding.len.Goals as goal

pub returns-clause-vertices : goal.returns-clause-vertices
returns-clause-vertices c = subst HasVerticesAsCorners c.self.view_is (vertices_as_corners _ c.self.invariant.in_world.convex)
