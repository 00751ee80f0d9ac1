use Rattle.std.proofs.Common.{◌≤◌, ◌*◌, Bool, ℤ, ◌+ℤ◌, ◌∙◌, ap, sym, subst, unsigned_abs}
use Rattle.qm_narrow.specs.inner.Turn.{size_bound, slack_where}
use Rattle.qm_narrow.proofs.KeptSizes.{spread_kept, spread_small}
use Rattle.qm_narrow.proofs.edge.Edge.spread.Goals as goal

pub returns-then-turn-clause-exact : goal.returns-then-turn-clause-exact
returns-then-turn-clause-exact c = record {
  of_normal = c.size_of-size.result;
  size = c.size_of-size.ensures.exact;
  sum = spread_kept c.size_of-size.result c.args.self.now.length c.size_of-size.ensures.small c.requires.edge.length_small ∙ ap (λ (b : Bool). c.size_of-size.result +ℤ slack_where b (c.args.self.now.length +ℤ c.args.self.now.length)) (sym c.if-turn.true);
}

pub returns-then-turn-clause-small : goal.returns-then-turn-clause-small
returns-then-turn-clause-small c = subst (λ (z : ℤ). unsigned_abs z ≤ 3 * size_bound) (sym (spread_kept c.size_of-size.result c.args.self.now.length c.size_of-size.ensures.small c.requires.edge.length_small)) (spread_small c.size_of-size.result c.args.self.now.length c.size_of-size.ensures.small c.requires.edge.length_small)
