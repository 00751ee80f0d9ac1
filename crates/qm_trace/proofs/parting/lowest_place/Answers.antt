use Rattle.std.proofs.Common.{ℕ, ◌<◌, refl, sym, subst}
use Rattle.qm_spans.specs.Partings.{common_part, lowest_place}
use Rattle.qm_numbers.proofs.Divisors.{divisor_of_two}
use Rattle.qm_spans.proofs.LowestPlaces.{some_divisor}
use Rattle.qm_trace.proofs.parting.lowest_place.Goals as goal

pub nonzero_div-parting : goal.nonzero_div-parting
nonzero_div-parting c = subst (λ (n : ℕ). 0 < n) (sym c.common_divisor-divisor.ensures.value) (some_divisor c.args.parting c.requires)

pub nonzero_div-parting-2 : goal.nonzero_div-parting-2
nonzero_div-parting-2 c = subst (λ (n : ℕ). 0 < n) (sym c.common_divisor-divisor.ensures.value) (some_divisor c.args.parting c.requires)

pub returns : goal.returns
unfolding lowest_place common_part divisor_of_two
returns c = rw (c.from-before.ensures, c.from-behind.ensures, c.common_divisor-divisor.ensures.value) refl
