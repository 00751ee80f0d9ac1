use Rattle.std.proofs.Common.{sym, subst, arith}
use Rattle.qm_models.specs.inner.OneModel.{AreBrushModelsUpTo}
use Rattle.qm_models.proofs.EntityModels.{no_entity_yet, of_all_entities, some_entity}
use Rattle.qm_models.proofs.finding.models.Goals as goal

pub loop-entity-init : goal.loop-entity-init
loop-entity-init c =
    subst (AreBrushModelsUpTo c.args.map.now c.args.world.now.tree 1) (sym c.new-models.ensures.items) (no_entity_yet c.args.map.now c.args.world.now.tree)

pub loop-entity-preserved : goal.loop-entity-preserved
loop-entity-preserved c = c.in_ok-add_model.ensures c.loop-entity.invariant

pub returns : goal.returns
returns c =
    let world = c.args.world.now.tree in
    let end = c.len-entity-end.ensures in
    let some = some_entity c.args.map.now world c.requires in
    let last = c.loop-entity.auto.entity-end (omega (arith, some, end)) in
    of_all_entities c.args.map.now world c.loop-entity.entity c.loop-entity.models.items (omega (arith, last, c.loop-entity-test.false, end)) c.loop-entity.invariant
