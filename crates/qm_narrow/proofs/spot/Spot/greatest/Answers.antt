use Rattle.std.proofs.Common.{◌∙◌, lit≤}
use Rattle.qm_numbers.proofs.Bits.{kept_64}
use Rattle.qm_space.specs.Cuboid.{least_product, greatest_product}
use Rattle.qm_narrow.specs.inner.Look.{look_bound, least_between, greatest_along}
use Rattle.qm_narrow.proofs.spot.Spot.greatest.Goals as goal

pub returns-clause-exact : goal.returns-clause-exact
unfolding greatest_along greatest_product least_between least_product
returns-clause-exact c = kept_64 c.least_between.result look_bound c.least_between.ensures.size (lit≤ tt) ∙ c.least_between.ensures.exact
