use Rattle.std.proofs.Common.{◌∙◌, Some, Ok, Err, sym, ap, rules}
use Rattle.std.proofs.lemmas.List.Sorted.{answers_always}
use Rattle.qm_model_layout.specs.BrushModel.{BrushModel}
use Rattle.qm_answers.proofs.ModelsByEntity.{found_by_halves}
use Rattle.qm_inspect.proofs.models.model_of_entity.Goals as goal

-- the closure gives a model's entity
pub returns-in-Ok : goal.returns-in-Ok
returns-in-Ok c =
    let by_entity = c.in-Ok.ensures.position (λ (model : BrushModel). model.entity) (answers_always _ _ _ (λ f a r g called. search rules)) in
    let found = found_by_halves c.args.models.now c.args.entity c.requires (Ok c.in-Ok.at) c.in-Ok.ensures.bound by_entity in
    found c.index-models-at.result ∙ ap (λ (model : BrushModel). Some model) (sym c.index-models-at.is)

pub returns-in-Err : goal.returns-in-Err
returns-in-Err c =
    let by_entity = c.in-Err.ensures.position (λ (model : BrushModel). model.entity) (answers_always _ _ _ (λ f a r g called. search rules)) in
    found_by_halves c.args.models.now c.args.entity c.requires (Err c.in-Err.field-0) c.in-Err.ensures.bound by_entity
