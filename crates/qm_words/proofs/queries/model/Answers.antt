use Rattle.std.proofs.Common.{rules}
use Rattle.qm_words.proofs.QueryAnswers.{model_at_is, no_model, no_model_entity, no_model_place}
use Rattle.qm_words.proofs.SingleWords.{if_none}
use Rattle.qm_words.proofs.queries.model.Goals as goal

pub returns-in_err-whole-clause-none : goal.returns-in_err-whole-clause-none
returns-in_err-whole-clause-none c = if_none c.from_residual.result _ (no_model c.args.text.now c.in_default.ensures.none c.in_err-whole.ensures.none)

pub returns-in_err-entity-clause-none : goal.returns-in_err-entity-clause-none
returns-in_err-entity-clause-none c =
    if_none c.from_residual-in_err-entity.result _ (no_model_entity c.args.text.now c.in-Some.first.now c.in-Some.numbers.now c.in-Some.ensures.some c.in_err-entity.ensures.none)

pub returns-in_err-x-clause-none : goal.returns-in_err-x-clause-none
returns-in_err-x-clause-none c =
    if_none c.from_residual-in_err-x.result _ (no_model_place c.args.text.now c.in-Some.first.now c.in-Some.numbers.now c.in-Some.ensures.some c.in_err-x.ensures.none)

pub returns-clause-some : goal.returns-clause-some
returns-clause-some c =
    let at = c.in_ok-x.field-0 in
    let is = model_at_is c.args.text.now c.in-Some.first.now c.in-Some.numbers.now c.in-Some.ensures.some c.in_ok-entity.entity at.x at.y at.z c.in_ok-entity.ensures.some.0 c.in_ok-entity.ensures.some.1 c.in_ok-x.ensures.some in
    search rules
