use Rattle.std.proofs.Common.{ℕ, ◌+◌, ap, sym, subst}
use Rattle.std.proofs.lemmas.Result.{err_from_is_err_and}
use Rattle.qm_formats.specs.Layout.{each_after}
use Rattle.qm_formats.proofs.ReadLists.{IsReadUpTo, one_more_after, one_fault_after}
use Rattle.qm_model_layout.specs.BrushModel.{BrushModel}
use Rattle.qm_model_layout.specs.ModelLayout.{model_layout}
use Rattle.qm_model_file.proofs.Faults.{models_fault_passes}
use Rattle.qm_model_file.proofs.model_reading.all_models_at.Goals as goal

pub returns-in_err-model : goal.returns-in_err-model
returns-in_err-model c =
    let p = err_from_is_err_and c.from_residual.result c.from_residual.ensures.1 in
    rw (p.1, p.2) (models_fault_passes c.in_err-model.field-0.0 (one_fault_after (λ (model : BrushModel). model.entity) (model_layout c.args.bound c.args.numbered) c.args.count c.args.bytes.now _ c.loop.models.items c.loop.last_entity c.loop.counter c.loop.next c.loop-test.true c.loop.invariant) c.in_err-model.ensures)

pub loop-preserved : goal.loop-preserved
loop-preserved c =
    let layout = model_layout c.args.bound c.args.numbered in
    let whole = (each_after (λ (model : BrushModel). model.entity) layout 0 c.args.count).read c.args.bytes.now c.args.at in
    let more = one_more_after (λ (model : BrushModel). model.entity) layout c.args.count c.args.bytes.now whole c.loop.models.items c.loop.last_entity c.loop.counter c.loop.next c.in_ok-model.model c.in_ok-model.after _ c.loop-test.true c.loop.invariant c.in_ok-model.ensures c.in_ok-push.ensures.items in
    let same = ap (λ (model : BrushModel). model.entity) (sym c.model.view_is) in
    subst (λ (entity : ℕ). IsReadUpTo (λ (model : BrushModel). model.entity) layout c.args.count c.args.bytes.now whole c.push.new.self.items entity (c.loop.counter + 1) c.in_ok-model.after) same more
