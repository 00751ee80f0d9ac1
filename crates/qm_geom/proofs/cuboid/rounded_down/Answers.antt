use Rattle.std.proofs.Common.{◌≡◌, ◌≤◌, ◌^◌, w64, arith, lit≤, unsigned_abs}
use Rattle.std.specs.Int.{int_div_euclid}
use Rattle.std.proofs.lemmas.Int.{ints, to_z-of_z}
use Rattle.qm_numbers.specs.Rounding.{IsRoundedDown}
use Rattle.qm_numbers.proofs.Roundings.{down_is, down_small}
use Rattle.qm_numbers.proofs.Bits.{kept_64}
use Rattle.qm_geom.proofs.cuboid.rounded_down.Goals as goal

exact : (c : goal.After-div_euclid) → IsRoundedDown c.args.number c.args.factor c.div_euclid.result
exact c =
    let e : c.div_euclid.result ≡ int_div_euclid c.args.number c.args.factor = rw (to_z-of_z w64 c.args.number c.ranges.number, to_z-of_z w64 c.args.factor c.ranges.factor) at c.div_euclid.ensures in
    rw e (down_is c.args.number c.args.factor c.requires.factor_positive)

small : (c : goal.After-div_euclid) → unsigned_abs c.div_euclid.result ≤ 2 ^ 45
small c =
    let p = c.requires.factor_positive in let n = c.requires.number_small in
    down_small c.args.number c.args.factor c.div_euclid.result (2 ^ 45) p (omega (arith, ints)) (exact c)

pub returns-clause-exact : goal.returns-clause-exact
returns-clause-exact c = rw (kept_64 c.div_euclid.result (2 ^ 45) (small c) (lit≤ tt)) (exact c)

pub returns-clause-size : goal.returns-clause-size
returns-clause-size c = rw (kept_64 c.div_euclid.result (2 ^ 45) (small c) (lit≤ tt)) (small c)
