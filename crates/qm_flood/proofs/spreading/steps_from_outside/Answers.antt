use Rattle.std.proofs.Common.{arith}
use Rattle.qm_flood.proofs.Beginning.{less_left, all_passed}
use Rattle.qm_flood.proofs.spreading.steps_from_outside.Goals as goal

pub loop-passed-smaller : goal.loop-passed-smaller
loop-passed-smaller c =
    let before = c.loop-passed.invariant.one_each in
    let after = c.in_ok-pass.ensures.one_each in
    let most = less_left c.args.tree.now c.loop-passed.steps.items c.loop-passed.found.items c.loop-passed.passed c.loop-passed.invariant in
    let left = c.loop-passed-test.true in
    let len = c.len.ensures in
    omega (arith, before, after, most, left, len)

pub returns : goal.returns
returns c = all_passed c.args.tree.now c.loop-passed.steps.items c.loop-passed.found.items c.loop-passed.passed c.loop-passed.invariant (let end = c.loop-passed-test.false in let len = c.len.ensures in omega (arith, end, len))
