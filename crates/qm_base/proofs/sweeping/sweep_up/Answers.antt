use Rattle.std.proofs.Common.{arith}
use Rattle.qm_base.proofs.SweepSteps.{up_more, step_none}
use Rattle.qm_base.proofs.sweeping.sweep_up.Goals as goal

pub loop-leaf-init : goal.loop-leaf-init
loop-leaf-init c = record { step = step_none c.args.world.now c.args.ways.now c.args.seen.now c.args.passed.now c.requires.passed; rest = λ _ m before. absurd (omega (arith, before)) }

pub loop-leaf-preserved : goal.loop-leaf-preserved
loop-leaf-preserved c =
    up_more c.args.world.now c.args.ways.now c.loop-leaf.leaf c.args.seen.now c.loop-leaf.seen c.pass-due.new.seen c.args.passed.now c.loop-leaf.passed c.pass-due.new.passed c.loop-leaf.due c.pass-due.result c.pass-due.ensures c.loop-leaf.invariant
