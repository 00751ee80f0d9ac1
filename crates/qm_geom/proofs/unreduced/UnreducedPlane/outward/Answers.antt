use Rattle.std.proofs.Common.{sym, subst}
use Rattle.qm_space.specs.Bounds.{outward_normal_bound}
use Rattle.qm_space.specs.Plane.{Plane}
use Rattle.qm_space.specs.Reduced.{HasNormalUpTo}
use Rattle.qm_space.specs.inner.SpannedSizes.{HasSpannedSizes}
use Rattle.qm_space.proofs.SpannedPlanes.{outward_sizes, thousandths_normal_small}
use Rattle.qm_geom.proofs.Vectors.{outward_kept}
use Rattle.qm_geom.proofs.unreduced.UnreducedPlane.outward.Goals as goal

pub cross-normal-requires : goal.cross-normal-requires
cross-normal-requires c = record { self_small = c.between.ensures.size; other_small = c.between-2.ensures.size }

pub dot-requires : goal.dot-requires
dot-requires c = c.cross-normal.ensures.size

pub returns-clause-value : goal.returns-clause-value
returns-clause-value c =
    outward_kept c.args.p0 c.args.p1 c.args.p2 c.between.result c.between-2.result c.cross-normal.result c.of.result c.dot.result
    (record {
      first_step = c.between.ensures.exact;
      second_step = c.between-2.ensures.exact;
      normal = c.cross-normal.ensures.exact;
      second_point = c.of.ensures;
      distance = c.dot.ensures.exact;
      p0_small = c.requires.p0_in_cube;
      p1_small = c.requires.p1_in_cube;
      p2_small = c.requires.p2_in_cube;
    })

pub returns-clause-size : goal.returns-clause-size
returns-clause-size c =
    subst (λ (h : Plane). HasNormalUpTo outward_normal_bound h) (sym (returns-clause-value c))
    (thousandths_normal_small _ _ _ c.requires.p0_in_cube c.requires.p1_in_cube c.requires.p2_in_cube)

pub invariant_of-result : goal.invariant_of-result
invariant_of-result c =
    subst HasSpannedSizes (sym (returns-clause-value c))
    (outward_sizes _ _ _ c.requires.p0_in_cube c.requires.p1_in_cube c.requires.p2_in_cube)
