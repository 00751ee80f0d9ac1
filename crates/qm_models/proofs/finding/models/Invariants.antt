use Rattle.qm_models.specs.inner.OneModel.{AreBrushModelsUpTo}
use Rattle.qm_models.proofs.finding.models.Given as goal

abbrev pub invariant-loop-entity : goal.invariant-loop-entity
invariant-loop-entity l = AreBrushModelsUpTo l.map l.world.tree l.entity l.models.items
