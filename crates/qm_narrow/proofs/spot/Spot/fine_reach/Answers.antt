use Rattle.std.proofs.Common.{◌∙◌, ◌+ℤ◌, ◌-ℤ◌, lit≤}
use Rattle.qm_numbers.proofs.Bits.{kept_64}
use Rattle.qm_narrow.specs.inner.Turn.{dot_bound, size_bound}
use Rattle.qm_narrow.proofs.spot.Spot.fine_reach.Goals as goal

pub returns : goal.returns
returns c =
    let value_is = kept_64 c.dot.result dot_bound c.dot.ensures.size (lit≤ tt) ∙ c.dot.ensures.exact in
    let slack_is = kept_64 c.args.slack size_bound c.requires.slack_small (lit≤ tt) in
    record { low = c.around.ensures.low ∙ (λ i. value_is i -ℤ slack_is i); high = c.around.ensures.high ∙ (λ i. value_is i +ℤ slack_is i) }
