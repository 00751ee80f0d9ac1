use Rattle.std.proofs.Common.{lit≤, ◌∙◌}
use Rattle.qm_numbers.proofs.Bits.{kept_64}
use Rattle.qm_narrow.specs.inner.Look.{look_bound}
use Rattle.qm_narrow.proofs.Outlooks.{fixed_greatest}
use Rattle.qm_narrow.proofs.spot.Spot.greatest_from.Goals as goal

pub returns-clause-exact : goal.returns-clause-exact
returns-clause-exact c = kept_64 c.args.least look_bound c.requires.least_small (lit≤ tt) ∙ c.requires.least ∙ fixed_greatest c.args.normal.now c.args.self.now (c.requires.spot.1.fixed c.if-self.false)
