use Rattle.std.proofs.Common.{List, ap, ◌∙◌, map, length, arith}
use Rattle.std.proofs.lemmas.List.{take_all}
use Rattle.qm_mapfile.specs.declared.entity.Brush.{Brush}
use Rattle.qm_mapfile.specs.declared.face.Face.{Face}
use Rattle.qm_rooms.specs.Boxes.{face_points, stone_face, box_brush}
use Rattle.qm_gen.proofs.stone.box_brush.Goals as goal

pub returns : goal.returns
unfolding box_brush face_points
returns c =
    let points = c.face_points-points-items in
    let all = ap length points.ensures in
    let brush_of : List Face → Brush = λ faces. record { faces = faces } in
    ap brush_of (c.from_vec.ensures ∙ c.loop-points.invariant ∙ ap (map stone_face) (take_all c.loop-points.points-index points.result (omega (arith, all)) ∙ points.ensures))
