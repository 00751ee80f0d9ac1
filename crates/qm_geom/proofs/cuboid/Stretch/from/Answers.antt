use Rattle.std.proofs.Common.{ℤ, ◌≤ℤ◌, ◌⊎◌, w64, ◌∙◌, ap, sym, subst, lit≤, pos}
use Rattle.std.proofs.lemmas.Int.{to_z-of_z}
use Rattle.qm_numbers.proofs.Bits.{kept_32}
use Rattle.qm_space.specs.Bounds.{world_extent}
use Rattle.qm_space.specs.Cuboid.{Stretch, IsTightenedStretch}
use Rattle.qm_space.proofs.CoordinateSizes.{coordinate_small}
use Rattle.qm_space.proofs.Cuboids.{from_kept}
use Rattle.qm_geom.proofs.cuboid.Stretch.from.Goals as goal

pub returns : goal.returns
returns c =
    let low = kept_32 c.low_from.result world_extent (coordinate_small c.low_from.result c.low_from.ensures.coordinate) (lit≤ tt) in
    let high = kept_32 c.self.inside.high world_extent (coordinate_small c.self.inside.high c.self.invariant.high) (lit≤ tt) ∙ ap (λ (s : Stretch). s.high) c.self.view_is in
    subst (λ (t : Stretch). IsTightenedStretch t c.args.self (pos 1) c.args.least) (λ i. record { low = sym low i; high = sym high i })
    (from_kept c.args.self c.args.least c.low_from.result (subst (λ (n : ℤ). (c.low_from.result ≤ℤ c.args.self.low) ⊎ (c.low_from.result ≤ℤ n)) (to_z-of_z w64 c.args.least c.ranges.least) c.low_from.ensures.bound))
