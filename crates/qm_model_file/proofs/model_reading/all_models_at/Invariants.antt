use Rattle.qm_formats.specs.Layout.{each_after}
use Rattle.qm_formats.proofs.ReadLists.{IsReadUpTo}
use Rattle.qm_model_layout.specs.BrushModel.{BrushModel}
use Rattle.qm_model_layout.specs.ModelLayout.{model_layout}
use Rattle.qm_model_file.proofs.model_reading.all_models_at.Given as goal

-- some models are read, and what is read of the others behind them completes them
abbrev pub invariant-loop : goal.invariant-loop
invariant-loop l = IsReadUpTo (λ (model : BrushModel). model.entity) (model_layout l.bound l.numbered) l.count l.bytes ((each_after (λ (model : BrushModel). model.entity) (model_layout l.bound l.numbered) 0 l.count).read l.bytes l.at) l.models.items l.last_entity l.counter l.next
