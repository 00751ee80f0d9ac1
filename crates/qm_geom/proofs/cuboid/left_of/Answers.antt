use Rattle.std.proofs.Common.{◌^◌, sym, subst}
use Rattle.qm_geom.specs.declared.vector.Vector.{Vector}
use Rattle.qm_geom.specs.Vectors.{HasSmallComponents}
use Rattle.qm_geom.proofs.Cuboids.{left_kept, left_small}
use Rattle.qm_geom.proofs.cuboid.left_of.Goals as goal

pub returns-clause-exact : goal.returns-clause-exact
returns-clause-exact c = left_kept c.args.products c.args.distance c.requires.products_small c.requires.distance_small

pub returns-clause-size : goal.returns-clause-size
returns-clause-size c =
    subst (λ (v : Vector). HasSmallComponents v (2 ^ 45)) (sym (returns-clause-exact c)) (left_small c.args.products c.args.distance c.requires.products_small c.requires.distance_small)
