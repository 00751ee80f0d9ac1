use Rattle.std.proofs.Common.{◌≡◌, ◌∙◌, ◌<◌, ℕ, ap, sym, subst, unsigned_abs}
use Rattle.qm_numbers.specs.Gcd.{gcd}
use Rattle.qm_geom.specs.inner.Axes.{coordinate_factor}
use Rattle.qm_geom.proofs.Axes.{coordinate_held, factor_positive, divided_fits}
use Rattle.qm_geom.proofs.axis.Fraction.in_lowest_terms.Goals as goal
use Rattle.qm_geom.proofs.axis.Fraction.in_lowest_terms.Goals.{After-common_divisor-factor}

factor_is : (c : After-common_divisor-factor) → c.common_divisor-factor.result ≡ coordinate_factor c.args.coordinate
factor_is c =
    c.common_divisor-factor.ensures.value
    ∙ ap (λ (n : ℕ). gcd n 1000) (c.from.ensures ∙ c.unsigned_abs.ensures.value ∙ ap unsigned_abs (coordinate_held c.args.coordinate c.requires))

positive : (c : After-common_divisor-factor) → 0 < c.common_divisor-factor.result
positive c = subst (λ (k : ℕ). 0 < k) (sym (factor_is c)) (factor_positive c.args.coordinate)

pub nonzero_div-result : goal.nonzero_div-result
nonzero_div-result c =
    let w = (goal.at.nonzero_div-result c).After-common_divisor-factor in
    (positive w, divided_fits c.args.coordinate c.from-2.result c.common_divisor-factor.result c.requires c.from-2.ensures (factor_is w))

pub nonzero_div-result-2 : goal.nonzero_div-result-2
nonzero_div-result-2 c = positive (goal.at.nonzero_div-result-2 c).After-common_divisor-factor
