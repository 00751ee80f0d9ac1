use Rattle.std.proofs.Common.{◌≡◌, ◌*◌, ◌^◌, length, subst, ap, arith}
use Rattle.qm_base.specs.inner.Sweeping.{IsSweep}
use Rattle.qm_base.proofs.SweepSteps.{grown_none, grown_twice, flood_over, passed_most}
use Rattle.qm_base.proofs.sweeping.flood.Goals as goal

pub turns-init : goal.turns-init
turns-init c = (c.requires.passed, grown_none c.args.world.now.portals c.args.ways.now c.args.seen.now)

pub returns-then-not-sweep_up : goal.returns-then-not-sweep_up
returns-then-not-sweep_up c =
    flood_over c.args.world.now c.args.ways.now c.args.seen.now c.turns.seen c.sweep_up.new.seen c.turns.passed c.sweep_up.new.passed c.turns.invariant.1
    (subst (IsSweep c.args.world.now c.args.ways.now c.turns.seen c.sweep_up.new.seen c.turns.passed c.sweep_up.new.passed) c.if-not-sweep_up.true c.sweep_up.ensures)

pub returns-then-not-sweep_down : goal.returns-then-not-sweep_down
returns-then-not-sweep_down c =
    flood_over c.args.world.now c.args.ways.now c.args.seen.now c.sweep_up.new.seen c.sweep_down.new.seen c.sweep_up.new.passed c.sweep_down.new.passed
    (grown_twice c.args.world.now.portals c.args.ways.now c.args.seen.now c.turns.seen c.sweep_up.new.seen c.turns.invariant.1 c.sweep_up.ensures.step.grown)
    (subst (IsSweep c.args.world.now c.args.ways.now c.sweep_up.new.seen c.sweep_down.new.seen c.sweep_up.new.passed c.sweep_down.new.passed) c.if-not-sweep_down.true c.sweep_down.ensures)

pub turns-smaller : goal.turns-smaller
turns-smaller c =
    let first = c.sweep_up.ensures.step.more c.if-not-sweep_up.false in
    let second = c.sweep_down.ensures.step.more c.if-not-sweep_down.false in
    let most = passed_most c.sweep_down.new.passed (λ k. (c.type_inv.passed k).fits) in
    let old_wide = c.turns.invariant.0.passed_wide in
    let new_wide = c.sweep_down.ensures.step.passed.passed_wide in
    let same : length c.sweep_down.new.passed * 2 ^ 64 ≡ length c.turns.passed * 2 ^ 64 = ap (λ n. n * 2 ^ 64) (omega (arith, old_wide, new_wide)) in
    omega (arith, first, second, most, same)

pub turns-preserved : goal.turns-preserved
turns-preserved c = (
  c.sweep_down.ensures.step.passed,
  grown_twice c.args.world.now.portals c.args.ways.now c.args.seen.now c.sweep_up.new.seen c.sweep_down.new.seen
      (grown_twice c.args.world.now.portals c.args.ways.now c.args.seen.now c.turns.seen c.sweep_up.new.seen c.turns.invariant.1 c.sweep_up.ensures.step.grown)
      c.sweep_down.ensures.step.grown,
)
