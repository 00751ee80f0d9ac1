use Rattle.std.proofs.Common.{ap}
use Rattle.qm_formats.specs.TreeFile.{TreeFile}
use Rattle.qm_inspect.proofs.KeptPoints.{kept_model, model_outside}
use Rattle.qm_inspect.proofs.models.model_at.Goals as goal

pub returns-then-not-is_inside_bound : goal.returns-then-not-is_inside_bound
returns-then-not-is_inside_bound c =
    model_outside c.args.x c.args.y c.args.z c.ranges.x c.ranges.y c.ranges.z c.args.file.now c.file.inside.bound c.args.entity
    (ap (λ (file : TreeFile). file.bound) c.file.view_is) (λ inside. let is = c.is_inside_bound.ensures.1 inside in let not_is = c.if-not-is_inside_bound.true in absurd cc)

pub returns : goal.returns
returns c =
    kept_model c.args.x c.args.y c.args.z c.ranges.x c.ranges.y c.ranges.z c.args.file.now c.file.inside.bound c.point_of-point.result
    (ap (λ (file : TreeFile). file.bound) c.file.view_is) c.point_of-point.ensures (c.is_inside_bound.ensures.0 c.if-not-is_inside_bound.false)
    c.args.parts.now c.args.entity c.answer_at.result c.requires c.answer_at.ensures
