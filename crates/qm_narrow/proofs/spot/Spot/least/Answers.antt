use Rattle.std.proofs.Common.{◌∙◌, lit≤}
use Rattle.qm_numbers.proofs.Bits.{kept_64}
use Rattle.qm_narrow.specs.inner.Look.{look_bound}
use Rattle.qm_narrow.proofs.spot.Spot.least.Goals as goal

pub returns-clause-exact : goal.returns-clause-exact
returns-clause-exact c = kept_64 c.least_between.result look_bound c.least_between.ensures.size (lit≤ tt) ∙ c.least_between.ensures.exact
