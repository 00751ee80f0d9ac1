use Rattle.std.proofs.Common.{ℤ, ◌*ℤ◌, ◌≤ℤ◌, sym, subst}
use Rattle.qm_space.specs.Plane.{value}
use Rattle.qm_space.specs.Cuboid.{greatest_value}
use Rattle.qm_space.proofs.Cuboids.{greatest_value_bound}
use Rattle.qm_geom.specs.inner.Products.{greatest_products}
use Rattle.qm_geom.proofs.Cuboids.{value_is}
use Rattle.qm_geom.proofs.cuboid.Cuboid.greatest_value.Goals as goal

pub returns-clause-exact : goal.returns-clause-exact
unfolding greatest_value
returns-clause-exact c =
    value_is _ c.args.plane.now c.sum_less.result c.greatest_products.result (greatest_products c.args.plane.now c.args.self.now)
    c.sum_less.ensures.size c.plane.invariant.d_small c.plane.view_is c.greatest_products.ensures.exact c.sum_less.ensures.exact

pub returns-clause-bound : goal.returns-clause-bound
returns-clause-bound c = λ p i.
    subst (λ (v : ℤ). value c.args.plane.now p ≤ℤ (v *ℤ p.w)) (sym (returns-clause-exact c)) (greatest_value_bound c.args.plane.now c.args.self.now p i)
