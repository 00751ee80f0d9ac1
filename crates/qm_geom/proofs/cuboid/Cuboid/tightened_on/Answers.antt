use Rattle.std.proofs.Common.{◌≡◌, ◌^◌, ◌∙◌, ap, lit≤}
use Rattle.qm_numbers.proofs.Bits.{kept_32, kept_64}
use Rattle.qm_space.specs.Bounds.{normal_bound}
use Rattle.qm_space.specs.Plane.{Plane}
use Rattle.qm_space.specs.Cuboid.{Cuboid}
use Rattle.qm_space.proofs.Cuboids.{tightened_cuboid_on}
use Rattle.qm_geom.specs.declared.vector.Vector.{Vector}
use Rattle.qm_geom.specs.inner.Products.{least_products, greatest_products, left_of}
use Rattle.qm_geom.proofs.Cuboids.{left_is, between_same}
use Rattle.qm_geom.proofs.cuboid.Cuboid.tightened_on.Goals as goal

least_is : (c : goal.After-tightened_between-3) → c.left_of-least.result ≡ left_of (greatest_products c.args.plane.now c.args.self) c.args.plane.now.d
least_is c =
    left_is _ c.args.plane.now c.left_of-least.result c.greatest_products.result (greatest_products c.args.plane.now c.args.self)
    c.plane.invariant.d_small c.plane.view_is c.greatest_products.ensures.exact c.left_of-least.ensures.exact

greatest_is : (c : goal.After-tightened_between-3) → c.left_of-greatest.result ≡ left_of (least_products c.args.plane.now c.args.self) c.args.plane.now.d
greatest_is c =
    left_is _ c.args.plane.now c.left_of-greatest.result c.least_products.result (least_products c.args.plane.now c.args.self)
    c.plane.invariant.d_small c.plane.view_is c.least_products.ensures.exact c.left_of-greatest.ensures.exact

pub returns : goal.returns
returns c =
    tightened_cuboid_on c.args.self c.args.plane.now _ _ _
    (between_same _ _ c.args.self.x _ c.args.plane.now.nx _ _ _ _ (ap (λ (u : Cuboid). u.x) c.self.view_is) (kept_32 _ normal_bound c.plane.invariant.nx_small (lit≤ tt) ∙ ap (λ (g : Plane). g.nx) c.plane.view_is)
    (kept_64 c.left_of-least.result.x (2 ^ 45) c.left_of-least.ensures.size.x_small (lit≤ tt) ∙ ap (λ (v : Vector). v.x) (least_is c))
    (kept_64 c.left_of-greatest.result.x (2 ^ 45) c.left_of-greatest.ensures.size.x_small (lit≤ tt) ∙ ap (λ (v : Vector). v.x) (greatest_is c))
    c.tightened_between.ensures)
    (between_same _ _ c.args.self.y _ c.args.plane.now.ny _ _ _ _ (ap (λ (u : Cuboid). u.y) c.self.view_is) (kept_32 _ normal_bound c.plane.invariant.ny_small (lit≤ tt) ∙ ap (λ (g : Plane). g.ny) c.plane.view_is)
    (kept_64 c.left_of-least.result.y (2 ^ 45) c.left_of-least.ensures.size.y_small (lit≤ tt) ∙ ap (λ (v : Vector). v.y) (least_is c))
    (kept_64 c.left_of-greatest.result.y (2 ^ 45) c.left_of-greatest.ensures.size.y_small (lit≤ tt) ∙ ap (λ (v : Vector). v.y) (greatest_is c))
    c.tightened_between-2.ensures)
    (between_same _ _ c.args.self.z _ c.args.plane.now.nz _ _ _ _ (ap (λ (u : Cuboid). u.z) c.self.view_is) (kept_32 _ normal_bound c.plane.invariant.nz_small (lit≤ tt) ∙ ap (λ (g : Plane). g.nz) c.plane.view_is)
    (kept_64 c.left_of-least.result.z (2 ^ 45) c.left_of-least.ensures.size.z_small (lit≤ tt) ∙ ap (λ (v : Vector). v.z) (least_is c))
    (kept_64 c.left_of-greatest.result.z (2 ^ 45) c.left_of-greatest.ensures.size.z_small (lit≤ tt) ∙ ap (λ (v : Vector). v.z) (greatest_is c))
    c.tightened_between-3.ensures)
