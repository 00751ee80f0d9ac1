use Rattle.std.proofs.Common.{ap, ◌∙◌}
use Rattle.qm_space.specs.Plane.{Plane}
use Rattle.qm_face_file.proofs.PlanesOnWalls.{is_same_plane}
use Rattle.qm_face_corners.proofs.CornersFrom.{entered}
use Rattle.qm_face_corners.proofs.corners.numbered_corners.Goals as goal

pub returns-clause-corners : goal.returns-clause-corners
returns-clause-corners c =
    let pane = c.args.pane.now in
    let test = c.eq-in_front.ensures ∙ ap (λ (plane : Plane). is_same_plane pane.into plane) c.plane.ensures in
    let corners = c.in_ok-corners.ensures.corners in
    rw c.from_vec.ensures (
    record {
      in_front = c.eq-in_front.result;
      into_is = entered c.requires.pane.side pane.into pane.winding.plane c.eq-in_front.result c.requires.pane.into test;
      first = c.in_ok-first.first;
      first_is = c.in_ok-first.ensures;
      count = corners.counted;
      each = corners.are_corners;
    }
    )
