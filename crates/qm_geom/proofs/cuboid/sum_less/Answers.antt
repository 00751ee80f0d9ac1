use Rattle.std.proofs.Common.{◌≤◌, ◌^◌, ℤ, sym, subst, unsigned_abs}
use Rattle.qm_geom.proofs.Cuboids.{sum_less_kept, sum_less_small}
use Rattle.qm_geom.proofs.cuboid.sum_less.Goals as goal

pub returns-clause-exact : goal.returns-clause-exact
returns-clause-exact c = sum_less_kept c.args.products c.args.distance c.requires.products_small c.requires.distance_small

pub returns-clause-size : goal.returns-clause-size
returns-clause-size c =
    subst (λ (z : ℤ). unsigned_abs z ≤ 2 ^ 45) (sym (returns-clause-exact c)) (sum_less_small c.args.products c.args.distance c.requires.products_small c.requires.distance_small)
