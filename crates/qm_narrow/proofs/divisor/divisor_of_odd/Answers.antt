use Rattle.std.proofs.Common.{◌≡◌, ◌∙◌, ◌-◌, ◌*◌, ◌^◌, max, ap, w64}
use Rattle.std.specs.Int.{trailing_zeros}
use Rattle.std.proofs.lemmas.Nat.Gcd.{same_from_IsGcd}
use Rattle.qm_numbers.proofs.Divisors.{gcd_is}
use Rattle.qm_narrow.proofs.Halves.{less_odd, from_difference, difference_smaller, gcd_of_same}
use Rattle.qm_narrow.proofs.divisor.divisor_of_odd.Goals as goal
use Rattle.qm_narrow.proofs.divisor.divisor_of_odd.Goals.{After-odd_part-other}

product : (c : After-odd_part-other) → c.odd_part-other.result * 2 ^ trailing_zeros w64 (c.max.result - c.min-less.result) ≡ max c.loop-one.one c.loop-one.other - c.min-less.result
product c = c.odd_part-other.ensures.product ∙ ap (λ n. n - c.min-less.result) c.max.ensures

pub loop-one-smaller : goal.loop-one-smaller
loop-one-smaller c = difference_smaller _ _ _ _ _ c.loop-one.invariant.one_odd c.loop-one.invariant.other_odd c.min-less.ensures (product c)

pub loop-one-preserved : goal.loop-one-preserved
loop-one-preserved c = let i = c.loop-one.invariant in record {
  one_odd = less_odd _ _ _ _ _ i.one_odd i.other_odd c.min-less.ensures (product c);
  other_odd = c.odd_part-other.ensures.odd;
  same = λ g h. i.same g (from_difference _ _ _ _ _ i.one_odd i.other_odd c.min-less.ensures (product c) g h);
}

pub returns : goal.returns
returns c = same_from_IsGcd _ _ _ _ (c.loop-one.invariant.same _ (gcd_of_same _ _ c.loop-one-test.false)) (gcd_is _ _)
