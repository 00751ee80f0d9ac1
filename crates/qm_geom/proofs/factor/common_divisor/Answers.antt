use Rattle.std.proofs.Common.{arith}
use Rattle.std.proofs.Math.Nat.{mod-le}
use Rattle.std.proofs.lemmas.Nat.Gcd.{IsGcd-from_zero, IsGcd-from_mod, same_from_IsGcd}
use Rattle.qm_numbers.proofs.Divisors.{gcd_is}
use Rattle.qm_geom.proofs.factor.common_divisor.Goals as goal

pub loop-less-preserved : goal.loop-less-preserved
loop-less-preserved c = record {
  same = λ g h. c.loop-less.invariant.same g (IsGcd-from_mod _ _ g h);
  small = let s = c.loop-less.invariant.small in let m = mod-le c.loop-less.greater c.loop-less.less in omega arith;
}

pub returns-clause-value : goal.returns-clause-value
returns-clause-value c =
    same_from_IsGcd _ _ _ _ (c.loop-less.invariant.same _ (IsGcd-from_zero _ _ c.loop-less-test.false)) (gcd_is _ _)
