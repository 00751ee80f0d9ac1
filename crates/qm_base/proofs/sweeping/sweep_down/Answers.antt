use Rattle.std.proofs.Common.{◌≡◌, ◌+◌, ◌-◌, ℕ, subst, arith}
use Rattle.qm_base.proofs.SweepSteps.{SweepDownTo, down_more, step_none}
use Rattle.qm_base.proofs.sweeping.sweep_down.Goals as goal

pub loop-leaf-init : goal.loop-leaf-init
loop-leaf-init c =
    record { step = step_none c.args.world.now c.args.ways.now c.args.seen.now c.args.passed.now c.requires.passed; rest = λ _ m from within. absurd (omega (arith, from, within)) }

pub loop-leaf-preserved : goal.loop-leaf-preserved
loop-leaf-preserved c =
    let leaf : ℕ = c.loop-leaf.leaf - 1 in
    let one_more : c.loop-leaf.leaf ≡ leaf + 1 = let some = c.loop-leaf-test.true in omega (arith, some) in
    down_more c.args.world.now c.args.ways.now leaf c.args.seen.now c.loop-leaf.seen c.pass-due.new.seen c.args.passed.now c.loop-leaf.passed c.pass-due.new.passed c.loop-leaf.due c.pass-due.result c.pass-due.ensures
    (subst (λ (n : ℕ). SweepDownTo c.args.world.now c.args.ways.now n c.args.seen.now c.loop-leaf.seen c.args.passed.now c.loop-leaf.passed c.loop-leaf.due) one_more c.loop-leaf.invariant)
