use Rattle.std.proofs.Common.{arith}
use Rattle.qm_flood.proofs.GoingDown.{goes_down, is_down}
use Rattle.qm_flood.proofs.trail.trail_of.Goals as goal

pub loop-next-preserved : goal.loop-next-preserved
loop-next-preserved c =
    let near = c.in-Some.ensures.some in
    rw c.in_ok-push-2.ensures.items
    (record {
      some = (near c.requires.steps.0 c.requires.steps.1).some;
      completes = goes_down c.args.touches.now c.args.steps.now c.args.leaf c.loop-next.last c.in-Some.next c.loop-next.trail.items c.loop-next.invariant.completes near;
    })

pub loop-next-smaller : goal.loop-next-smaller
loop-next-smaller c = let less = (c.in-Some.ensures.some c.requires.steps.0 c.requires.steps.1).one_less in omega (arith, less)

pub returns : goal.returns
returns c = rw c.from_vec.ensures (is_down c.args.touches.now c.args.steps.now c.args.leaf c.loop-next.last c.loop-next.trail.items c.loop-next.invariant.completes c.in_default.ensures.none)
