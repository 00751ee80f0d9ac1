use Rattle.std.proofs.Common.{sym, subst, arith}
use Rattle.std.proofs.lemmas.Int.{ints}
use Rattle.qm_space.specs.Cuboid.{Cuboid, IsInCuboid}
use Rattle.qm_space.specs.Point.{whole_point}
use Rattle.qm_convex.specs.Winding.{Winding}
use Rattle.qm_narrow.specs.inner.Beam.{AllSee, SeesThrough}
use Rattle.qm_narrow.proofs.seeing.sees_by.Goals as goal

pub returns : goal.returns
unfolding AllSee
returns c = λ told p weight inside.
    subst (λ (v : Winding). SeesThrough c.args.pass.now v p) c.winding-far.ensures.value
    (subst (λ (v : Winding). SeesThrough v c.winding-far.result.now p) c.winding-near.ensures.value
    (c.goes_through.ensures told p (whole_point c.end_beyond-end.result)
    (record {
      from_weight = weight;
      to_weight = omega (arith, ints);
      from = subst (λ (cuboid : Cuboid). IsInCuboid cuboid p) (sym c.ending_at-beam.ensures.from) inside;
      to = c.ending_at-beam.ensures.to;
    })))
