use Rattle.std.proofs.lemmas.Option.{MatchOption-at_some, MatchOption-at_none}
use Rattle.qm_models.proofs.EntityModels.{no_model_more, one_model_more}
use Rattle.qm_models.proofs.finding.add_model.Goals as goal

pub returns-in_ok-push-in-Some : goal.returns-in_ok-push-in-Some
returns-in_ok-push-in-Some c = λ are.
    rw c.in_ok-push-in-Some.ensures.items
    (one_model_more c.args.map.now c.args.world.now.tree c.args.entity c.args.models.now.items are c.in-Some.model (MatchOption-at_some _ _ c.in-Some.model c.in-Some.is c.in_ok-model.ensures))

pub returns-in-None : goal.returns-in-None
returns-in-None c = λ are.
    no_model_more c.args.map.now c.args.world.now.tree c.args.entity c.args.models.now.items are (MatchOption-at_none _ _ c.in-None.is c.in_ok-model.ensures)
