use Rattle.std.proofs.Common.{◌^◌, ◌∙◌, ap, lit≤}
use Rattle.qm_numbers.proofs.Kept.{apart_fits, apart_is, small_kept}
use Rattle.qm_lines.specs.inner.Crossing.{Crossing, mixed}
use Rattle.qm_lines.proofs.Crossings.{mixed_computed}
use Rattle.qm_lines.proofs.crossing.Crossing.mixed.Goals as goal

pub product-forward-requires : goal.product-forward-requires
product-forward-requires c = small_kept c.args.at_begin (2 ^ 45) (lit≤ tt) c.requires.begin

pub product-backward-requires : goal.product-backward-requires
product-backward-requires c = small_kept c.args.at_end (2 ^ 45) (lit≤ tt) c.requires.end

pub overflow_sub-result : goal.overflow_sub-result
overflow_sub-result c =
    apart_fits c.product-forward.result c.product-backward.result (2 ^ 108) (2 ^ 108) c.product-forward.ensures.size c.product-backward.ensures.size (lit≤ tt)

pub returns : goal.returns
returns c =
    apart_is c.product-forward.result c.product-backward.result (2 ^ 108) (2 ^ 108) c.product-forward.ensures.size c.product-backward.ensures.size (lit≤ tt)
    ∙ mixed_computed c.self.inside.at_begin c.self.inside.at_end c.product-forward.result c.product-backward.result c.args.at_begin c.args.at_end c.self.invariant c.requires.begin c.requires.end c.product-forward.ensures.exact c.product-backward.ensures.exact
    ∙ ap (λ (crossing : Crossing). mixed crossing c.args.at_begin c.args.at_end) c.self.view_is
