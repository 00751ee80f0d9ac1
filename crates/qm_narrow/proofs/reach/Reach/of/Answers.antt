use Rattle.std.proofs.Common.{◌∙◌, lit≤}
use Rattle.qm_numbers.proofs.Bits.{kept_64}
use Rattle.qm_narrow.specs.inner.Look.{look_bound}
use Rattle.qm_narrow.proofs.reach.Reach.of.Goals as goal

pub returns-clause-low : goal.returns-clause-low
returns-clause-low c = kept_64 c.least.result look_bound c.least.ensures.size (lit≤ tt) ∙ c.least.ensures.exact

pub returns-clause-high : goal.returns-clause-high
returns-clause-high c = kept_64 c.greatest.result look_bound c.greatest.ensures.size (lit≤ tt) ∙ c.greatest.ensures.exact
