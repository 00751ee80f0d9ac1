use Rattle.std.proofs.Common.{◌^◌, lit≤, refl}
use Rattle.qm_numbers.proofs.Bits.{kept_32, kept_64, negated_32, negated_64}
use Rattle.qm_space.specs.Bounds.{normal_bound}
use Rattle.qm_space.proofs.Cuboids.{tightened_between}
use Rattle.qm_geom.proofs.Cuboids.{tightened_same}
use Rattle.qm_geom.proofs.cuboid.Stretch.tightened_between.Goals as goal

pub returns : goal.returns
returns c =
    tightened_between c.tightened.result c.tightened-2.result c.args.self c.args.component c.args.least c.args.greatest
    (tightened_same _ _ _ _ _ _ _ refl (kept_32 _ normal_bound c.requires.component_small (lit≤ tt)) (kept_64 _ (2 ^ 45) c.requires.least_small (lit≤ tt)) c.tightened.ensures)
    (tightened_same _ _ _ _ _ _ _ refl (negated_32 _ normal_bound c.requires.component_small (lit≤ tt)) (negated_64 _ (2 ^ 45) c.requires.greatest_small (lit≤ tt)) c.tightened-2.ensures)
