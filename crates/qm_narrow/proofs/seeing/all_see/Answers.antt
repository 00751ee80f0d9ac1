use Rattle.std.proofs.Common.{ℕ, sym, subst, arith, ⊎_elim}
use Rattle.std.proofs.lemmas.Bool.{cases_eq}
use Rattle.qm_convex.specs.Winding.{corner_at}
use Rattle.qm_narrow.specs.inner.Beam.{AllSee, SeesThrough}
use Rattle.qm_narrow.proofs.Beams.{corners_seen}
use Rattle.qm_narrow.proofs.seeing.all_see.Goals as goal

pub loop-i-init : goal.loop-i-init
loop-i-init c = λ k below. absurd (omega (arith, below))

pub loop-i-preserved : goal.loop-i-preserved
unfolding AllSee
loop-i-preserved c = λ k below.
    ⊎_elim
    (λ same. subst (λ (n : ℕ). SeesThrough c.args.pass.now c.args.target.now (corner_at c.args.source.now n)) (sym same)
    (c.sees.ensures c.if-not-sees.false (corner_at c.args.source.now c.loop-i.i)
    (c.len-i-end.ensures.in_world.convex.weight c.loop-i.i (let n = c.len-i-end.ensures.count in let t = c.loop-i-test.true in omega arith))
    (c.cuboid.ensures (corner_at c.args.source.now c.loop-i.i) c.spot.ensures)))
    (λ other. c.loop-i.invariant k (omega (arith, below, other)))
    (cases_eq k c.loop-i.i)

pub cuboid-requires-clause-below_in : goal.cuboid-requires-clause-below_in
cuboid-requires-clause-below_in c = c.spot.ensures.below_in

pub cuboid-requires-clause-above_in : goal.cuboid-requires-clause-above_in
cuboid-requires-clause-above_in c = c.spot.ensures.above_in

pub returns : goal.returns
returns c = λ told.
    corners_seen c.args.source.now c.args.pass.now c.args.target.now c.len-passes.ensures.in_world.convex c.len-targets.ensures.in_world.convex c.len-i-end.ensures.in_world.convex
    (λ i below. c.loop-i.invariant i (let n = c.len-i-end.ensures.count in let t = c.loop-i-test.false in omega arith))
