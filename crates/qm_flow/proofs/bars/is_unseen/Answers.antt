use Rattle.std.proofs.Common.{inl, inr, ◌∙◌}
use Rattle.std.proofs.lemmas.Bool.{not-true}
use Rattle.qm_flow.proofs.Barred.{unseen_via}
use Rattle.qm_flow.proofs.bars.is_unseen.Goals as goal

pub returns-then-not-has_leaf-clause-unseen : goal.returns-then-not-has_leaf-clause-unseen
returns-then-not-has_leaf-clause-unseen g c _ =
    let left = c.from.ensures.value in
    unseen_via c.args.world.now (g.S.RowSource.world c.args.source.now) c.args.first c.args.portal c.back-back.result c.from.result left.0 c.has_leaf.result c.requires.same_world left.1 c.back-back.ensures.back (inl left.2) c.has_leaf.ensures.sound c.if-not-has_leaf.true

pub returns-clause-unseen : goal.returns-clause-unseen
returns-clause-unseen g c is =
    let entered = c.to.ensures.value in
    let same = g.met.S.RowSource.same_world c.args.source.now c.has_leaf.new.source c.has_leaf.ensures.on ∙ c.requires.same_world in
    unseen_via c.args.world.now (g.S.RowSource.world c.has_leaf.new.source) c.args.first c.args.portal c.back-back.result c.to.result entered.0 c.has_leaf-2.result same entered.1 c.back-back.ensures.back (inr entered.2) c.has_leaf-2.ensures.sound (not-true c.has_leaf-2.result is)
