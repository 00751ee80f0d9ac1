use Rattle.std.proofs.Common.{ℤ, ◌*ℤ◌, ◌≤ℤ◌, sym, subst}
use Rattle.qm_space.specs.Plane.{value}
use Rattle.qm_space.specs.Cuboid.{least_value}
use Rattle.qm_space.proofs.Cuboids.{least_value_bound}
use Rattle.qm_geom.specs.inner.Products.{least_products}
use Rattle.qm_geom.proofs.Cuboids.{value_is}
use Rattle.qm_geom.proofs.cuboid.Cuboid.least_value.Goals as goal

pub returns-clause-exact : goal.returns-clause-exact
unfolding least_value
returns-clause-exact c =
    value_is _ c.args.plane.now c.sum_less.result c.least_products.result (least_products c.args.plane.now c.args.self.now)
    c.sum_less.ensures.size c.plane.invariant.d_small c.plane.view_is c.least_products.ensures.exact c.sum_less.ensures.exact

pub returns-clause-bound : goal.returns-clause-bound
returns-clause-bound c = λ p i.
    subst (λ (v : ℤ). (v *ℤ p.w) ≤ℤ value c.args.plane.now p) (sym (returns-clause-exact c)) (least_value_bound c.args.plane.now c.args.self.now p i)
