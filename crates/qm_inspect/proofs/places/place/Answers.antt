use Rattle.std.proofs.Common.{ap}
use Rattle.qm_formats.specs.TreeFile.{TreeFile}
use Rattle.qm_inspect.proofs.KeptPoints.{kept_place}
use Rattle.qm_inspect.proofs.places.place.Goals as goal

pub returns : goal.returns
returns c =
    kept_place c.args.x c.args.y c.args.z c.ranges.x c.ranges.y c.ranges.z c.args.file.now c.file.inside.bound c.point_of-point.result
    (ap (λ (file : TreeFile). file.bound) c.file.view_is) c.point_of-point.ensures (c.is_inside_bound.ensures.0 c.if-not-is_inside_bound.false)
    c.file.inside.tree c.answer_at.result (ap (λ (file : TreeFile). file.tree) c.file.view_is) c.answer_at.ensures
