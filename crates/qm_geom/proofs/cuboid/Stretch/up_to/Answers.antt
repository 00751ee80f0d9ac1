use Rattle.std.proofs.Common.{ℤ, ◌≤ℤ◌, ◌⊎◌, w64, ◌∙◌, ap, sym, subst, lit≤, negsuc, neg_ℤ}
use Rattle.std.proofs.lemmas.Int.{to_z-of_z}
use Rattle.qm_numbers.proofs.Bits.{kept_32}
use Rattle.qm_space.specs.Bounds.{world_extent}
use Rattle.qm_space.specs.Cuboid.{Stretch, IsTightenedStretch}
use Rattle.qm_space.proofs.CoordinateSizes.{coordinate_small}
use Rattle.qm_space.proofs.Cuboids.{up_to_kept}
use Rattle.qm_geom.proofs.cuboid.Stretch.up_to.Goals as goal

pub returns : goal.returns
returns c =
    let low = kept_32 c.self.inside.low world_extent (coordinate_small c.self.inside.low c.self.invariant.low) (lit≤ tt) ∙ ap (λ (s : Stretch). s.low) c.self.view_is in
    let high = kept_32 c.high_up_to.result world_extent (coordinate_small c.high_up_to.result c.high_up_to.ensures.coordinate) (lit≤ tt) in
    subst (λ (t : Stretch). IsTightenedStretch t c.args.self (negsuc 0) (neg_ℤ c.args.greatest)) (λ i. record { low = sym low i; high = sym high i })
    (up_to_kept c.args.self c.args.greatest c.high_up_to.result (subst (λ (n : ℤ). (c.args.self.high ≤ℤ c.high_up_to.result) ⊎ (n ≤ℤ c.high_up_to.result)) (to_z-of_z w64 c.args.greatest c.ranges.greatest) c.high_up_to.ensures.bound))
