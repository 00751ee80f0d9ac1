use Rattle.std.proofs.Common.{◌≡◌, Bool}
use Rattle.std.proofs.lemmas.Result.{IfOk-at_ok}
use Rattle.qm_space.specs.Plane.{Plane}
use Rattle.qm_space.specs.ThreePoints.{IsPlaneThrough}
use Rattle.qm_mapfile.specs.Face.{face_point, face_plane}
use Rattle.qm_brush.proofs.AddedBrushes.{coordinates_at, ok_if_plane}
use Rattle.qm_brush.proofs.entering.plane_of_face.Goals as goal

pub through-requires-clause-p0_in_cube : goal.through-requires-clause-p0_in_cube
through-requires-clause-p0_in_cube c = coordinates_at c.args.face.now.points 0 c.requires.coordinates

pub through-requires-clause-p1_in_cube : goal.through-requires-clause-p1_in_cube
through-requires-clause-p1_in_cube c = coordinates_at c.args.face.now.points 1 c.requires.coordinates

pub through-requires-clause-p2_in_cube : goal.through-requires-clause-p2_in_cube
through-requires-clause-p2_in_cube c = coordinates_at c.args.face.now.points 2 c.requires.coordinates

pub unwrap-requires : goal.unwrap-requires
unwrap-requires c = ok_if_plane c.args.face.now.points c.through.result c.through.ensures.no_normal.0 c.through.ensures.too_fine.0 c.requires.plane

pub returns-clause-value : goal.returns-clause-value
returns-clause-value c = IfOk-at_ok (λ (r : Plane × Bool). r ≡ face_plane c.args.face.now) c.unwrap.ensures c.through.ensures.value

pub returns-clause-leads : goal.returns-clause-leads
returns-clause-leads c =
    (IfOk-at_ok (λ (r : Plane × Bool). IsPlaneThrough (face_point c.args.face.now 0) (face_point c.args.face.now 1) (face_point c.args.face.now 2) r.0 r.1) c.unwrap.ensures c.through.ensures.through).leads
